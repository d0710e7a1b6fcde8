use Rattle.std.proofs.Common.{◌≡◌, ◌<◌, [], inl, inr, length, get_or, sym, ap, ◌∙◌, arith}
use Rattle.std.specs.Iterator.Adapters.{zip_first}
use Rattle.sets.specs.Sets.{bases, size}
use Rattle.sets.specs.Rising.{bases_left}
use Rattle.sets.proofs.Bases.{first_below}
use Rattle.stock.proofs.Causes.{write_taken_lem, write_ok, set-small, set-few}
use Rattle.stock.proofs.Layings.{laid_from-done, leads-done, none_left}
use Rattle.stock.proofs.Packings.{head_at}
use Rattle.stock.proofs.by_set.write_each.Goals as goal

pub unwrap-requires : goal.unwrap-requires
unwrap-requires g c =
    let values = c.args.amounts.now in
    let now = g.B.Book.holds c.loop-base.book in
    let k = length c.loop-base.yielded in
    let walk = zip_first c.loop-base.base-iterator in
    let some = c.in-Some.ensures.steps.0 in
    let more = ap length some in
    let h : k < size c.args.set = omega arith in
    let here = head_at values _ k c.in-Some.amount.now (sym c.loop-base.invariant.1 ∙ c.in-Some.ensures.steps.1) in
    let none = write_taken_lem now c.in-Some.base (get_or values k 0) (omega arith) (first_below walk.left _ c.in-Some.base some) (set-small (g.B.Book.holds c.args.book.now) c.args.set values c.requires k h) in
    write_ok g.B.Book.holds c.loop-base.book c.write.new.self c.in-Some.base (get_or values k 0) c.write.result none (rw here.1 c.write.ensures.cases)

pub returns : goal.returns
returns g c =
    let values = c.args.amounts.now in
    let set = c.args.set in
    let before = g.B.Book.holds c.args.book.now in
    let left = bases_left (zip_first c.loop-base.base-iterator) in
    let k = length c.loop-base.yielded in
    let few = set-few before set values c.requires in
    let none : left ≡ [] = elim c.in-None.ensures.steps [
      | inl z ↦ z.1.0
      | inr z ↦ none_left left values k (size set) c.loop-base.invariant.0 few c.told-amounts (ap length (sym c.loop-base.invariant.1) ∙ z.1.0)
    ] in
    let zero = ap length none in
    let spent = c.loop-base.invariant.3 in
    record {
      taken = c.requires;
      amounts = laid_from-done set left k values before.amounts _ none c.loop-base.invariant.4;
      spare = record { at_most = omega arith; no_more = omega arith };
      writes = leads-done g.B.Book.leaves values (bases set) c.args.book.now left k c.loop-base.book none c.loop-base.invariant.5;
    }
