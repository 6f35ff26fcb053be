use Rattle.std.proofs.Common.{◌≡◌, ℕ, ◌+◌, ◌<◌, Bool, List, [], ◌∷◌, ◌++◌, length, get_or, take, sym, subst}
use Rattle.std.proofs.lemmas.Fn.{FoldsTo-push}
use Rattle.std.proofs.lemmas.List.{take_more}
use Rattle.std.specs.List.{FoldsTo}
use Rattle.books.specs.Meaning.{Meaning}
use Rattle.books.specs.Questions.{Question}
use Rattle.programs.specs.Entered.{EnteredIn, PutTo}

-- A book of the first tasks, to which the next task was put, is one of the first tasks and that one.
pub entered-more : {B T : Type 0} (means : B → Meaning) (questions : T → ℕ → List Question) (allowed : T → ℕ → Bool) (tasks : List T) (at : ℕ) (task : T) (before after : B) → at < length tasks → task ≡ get_or tasks at task → EnteredIn means questions allowed (take at tasks) before → PutTo means questions allowed before task after → EnteredIn means questions allowed (take (at + 1) tasks) after
entered-more means questions allowed tasks at task before after inside is book put = record {
  first = book.first;
  empty = book.empty;
  put = subst (λ taken. FoldsTo (PutTo means questions allowed) book.first taken after)
      (sym (take_more tasks at task inside))
      (subst (λ t. FoldsTo (PutTo means questions allowed) book.first (take at tasks ++ t ∷ []) after) is
      (FoldsTo-push (PutTo means questions allowed) book.first (take at tasks) before task after book.put put));
}
