use Rattle.std.proofs.Common.{◌≡◌, ◌+◌, length, sym, ap, subst, mul-le-mul_right, arith}
use Rattle.planning.specs.FrameRows.{Lacks}
use Rattle.planning.specs.Rows.{RowsOf}
use Rattle.planning.proofs.TableSoFar.{finishes_or_not, lacking_at_most, lacks_less, rows_of_none, rows_of_one_more}
use Rattle.planning.proofs.table.Table.write.Goals as goal

pub loop-frame-init : goal.loop-frame-init
loop-frame-init c =
    let jobs = c.args.jobs.now.list.items in (
      λ G greedy. (
        λ i l. omega (arith, c.reset.ensures.lacks i l),
        subst (RowsOf jobs (record { count = 0; size = c.args.size }) G) (sym c.reset.ensures.rows) (rows_of_none jobs c.args.size G),
      ),
      omega (arith, c.reset.new.self.rows.ok.0, ap length c.reset.ensures.rows, lacking_at_most (length jobs) c.reset.new.self.lacks.items),
    )

pub serve-requires-clause-short : goal.serve-requires-clause-short
serve-requires-clause-short c =
    omega (arith, c.requires.short, mul-le-mul_right {m = c.loop-frame.frame + 1} {n = c.args.count} c.args.size (omega arith))

pub serve-requires-clause-room : goal.serve-requires-clause-room
serve-requires-clause-room c =
    omega (arith, c.args.jobs.now.few, c.args.jobs.now.list.ok.0, c.loop-frame.invariant.1, c.requires.frames)

pub loop-frame-preserved : goal.loop-frame-preserved
loop-frame-preserved c =
    let inv = c.loop-frame.invariant in
    let served = c.serve.ensures in
    let jobs = c.args.jobs.now.list.items in (
      λ G greedy.
          let old = inv.0 G greedy in (
            lacks_less jobs c.args.count c.args.size G greedy c.loop-frame.frame c.loop-frame-test.true c.loop-frame.self.lacks.items c.serve.new.self.lacks.items
                old.0 served.served,
            rows_of_one_more jobs c.args.count c.args.size G greedy c.loop-frame.frame c.loop-frame-test.true c.loop-frame.self.lacks.items c.serve.new.self.lacks.items
                old.0 served.served c.loop-frame.self.rows.items c.serve.new.self.rows.items old.1 served.rows,
          ),
      omega (arith, inv.1, served.few),
    )

pub returns : goal.returns
returns c =
    let inv = c.loop-frame.invariant in
    let jobs = c.args.jobs.now.list.items in
    let lacks = c.loop-frame.self.lacks.items in
    let all : c.loop-frame.frame ≡ c.args.count = omega (arith, c.loop-frame.auto.frame-end) in
    record {
      finishes = λ G greedy.
          finishes_or_not jobs (record { count = c.args.count; size = c.args.size }) G greedy lacks
          (subst (λ t. Lacks jobs G t lacks) all (inv.0 G greedy).0) c.is_complete.result c.is_complete.ensures;
      rows = λ G greedy.
          subst (λ t. RowsOf jobs (record { count = t; size = c.args.size }) G c.loop-frame.self.rows.items) all (inv.0 G greedy).1;
    }
