use Rattle.std.proofs.Common.{◌≡◌, ℕ, ◌+◌, ◌<◌, ◌≤◌, [], ◌∷◌, ◌++◌, length, get_or, replicate, sym, ap, ◌∙◌, inl, inr, arith, rules, length-append}
use Rattle.std.proofs.lemmas.List.{length-drop}
use Rattle.std.specs.Iterator.Adapters.{zip_second}
use Rattle.sets.specs.Sets.{bases}
use Rattle.sets.specs.Rising.{bases_left}
use Rattle.sets.proofs.Bases.{first_below}
use Rattle.stock.specs.Stock.{amounts_in}
use Rattle.stock.proofs.Bounds.{amounts_in_base}
use Rattle.stock.proofs.Packings.{Packing, head_at, packing_none, packing_more, packing_done, packed-whole}
use Rattle.stock.proofs.by_set.pack.Goals as goal

pub bounds-amounts-base : goal.bounds-amounts-base
bounds-amounts-base c = first_below (zip_second c.loop-place.place-iterator).left _ c.in-Some.base c.in-Some.ensures.steps.1

pub bounds-packed-place : goal.bounds-packed-place
bounds-packed-place c = let e = c.in-Some.ensures.steps.0.1 in omega (arith, e.0, e.1, c.loop-place.invariant.1)

pub loop-place-init : goal.loop-place-init
loop-place-init c =
    let none : Packing (bases c.args.set) (amounts_in c.args.amounts.now) 0 (replicate 8 0) = packing_none (bases c.args.set) (amounts_in c.args.amounts.now) in
    search rules

pub loop-place-preserved : goal.loop-place-preserved
loop-place-preserved c =
    let bs = bases c.args.set in
    let m = amounts_in c.args.amounts.now in
    let k = length c.loop-place.yielded in
    let base = c.in-Some.base in
    let e = c.in-Some.ensures.steps in
    let more : length (c.loop-place.yielded ++ (c.in-Some.place, base) ∷ []) ≡ k + 1 = length-append c.loop-place.yielded ((c.in-Some.place, base) ∷ []) in
    let head = head_at bs (bases_left (zip_second c.next.new.self)) k base (sym c.loop-place.invariant.2 ∙ e.1) in
    let here : c.in-Some.place ≡ k = e.0.1.1 ∙ c.loop-place.invariant.0 in
    let value : m (get_or bs k 0) ≡ get_or c.args.amounts.now base 0 = ap m head.1 ∙ amounts_in_base c.args.amounts.now base (omega (arith, first_below (zip_second c.loop-place.place-iterator).left _ base e.1)) in
    let small : k < 8 = omega (arith, here, e.0.1.0, c.loop-place.invariant.1) in
    rw (more, here) (
      omega (arith, e.0.1.2, c.loop-place.invariant.0),
      e.0.0 ∙ c.loop-place.invariant.1,
      sym head.2,
      rw value at (packing_more bs m k c.loop-place.packed c.loop-place.invariant.3 small head.0),
    )

pub returns : goal.returns
returns c =
    let bs = bases c.args.set in
    let m = amounts_in c.args.amounts.now in
    let k = length c.loop-place.yielded in
    let past : (j : ℕ) → k ≤ j → j < 8 → length bs ≤ j = λ j g h. elim c.in-None.ensures.steps [
      | inl z ↦ absurd (omega (arith, z.1.1.0, c.loop-place.invariant.0, c.loop-place.invariant.1, g, h))
      | inr z ↦ omega (arith, length-drop k bs, ap length (sym c.loop-place.invariant.2 ∙ z.1.0), g)
    ] in
    let value = packing_done bs m k c.loop-place.packed c.loop-place.invariant.3 past in
    record { value = value; whole = λ h. value ∙ packed-whole bs m h }
