-- That a list of jobs is in order is one fact, which a struct may hold. No contract cites this.
use Rattle.std.specs.Prelude.{◌⊎◌, List}
use Rattle.std.specs.Coded.{Coded-set, coded_ℕ, le_prop, ×_prop, Π_prop}
use Rattle.std.proofs.Common.{ap, inl, inr}
use Rattle.std.proofs.Math.Nat.{ne_of_lt}
use Rattle.planning.specs.declared.job.Job.{Job}
use Rattle.planning.specs.Windows.{InOrder}

-- One of two facts that exclude each other holds in one way only.
either_prop : {A B : Type 0} → IsProp A → IsProp B → (A → B → ⊥) → IsProp (A ⊎ B)
either_prop left right apart (inl a) (inl b) = ap inl (left a b)
either_prop left right apart (inl a) (inr b) = absurd (apart a b)
either_prop left right apart (inr a) (inl b) = absurd (apart b a)
either_prop left right apart (inr a) (inr b) = ap inr (right a b)

-- So jobs are in order in one way only, and a list of jobs may keep that they are.
pub InOrder-prop : (jobs : List Job) → IsProp (InOrder jobs)
InOrder-prop jobs =
    Π_prop (λ i. Π_prop (λ k. Π_prop (λ _. Π_prop (λ _. either_prop le_prop (×_prop (Coded-set coded_ℕ _ _) le_prop) (λ lower same. ne_of_lt lower same.0)))))
