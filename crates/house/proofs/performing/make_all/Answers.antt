use Rattle.std.proofs.Common.{◌≡◌, ◌<◌, ◌∷◌, length, take, vec_items, vec_len, sym, ap, ◌∙◌, arith}
use Rattle.std.specs.Vec.Iter.{into_iter_items}
use Rattle.house.proofs.Performed.{none_made, one_more_made, one_taken, all-taken}
use Rattle.house.proofs.performing.make_all.Goals as goal

pub loop-call-init : goal.loop-call-init
loop-call-init g c =
    let none : vec_len c.args.answers.now ≡ 0 = c.args.answers.now.ok.0 ∙ ap length c.requires.empty in
    let becomes : into_iter_items c.into_iter-call-iterator.result ≡ vec_items c.args.calls = c.into_iter-call-iterator.ensures.into_iter_gives.0 in
    let same = ap length becomes in
    (tt, tt, rw none, rw (none, c.requires.empty) (none_made _), omega (arith, same, c.args.calls.ok.0, c.requires.space))

pub loop-call-preserved : goal.loop-call-preserved
loop-call-preserved g c =
    let calls = into_iter_items c.into_iter-call-iterator.result in
    let n = vec_len c.loop-call.answers in
    let inv = c.loop-call.invariant in
    let pushed = c.push_reserved.ensures in
    let step : into_iter_items c.loop-call.call-iterator ≡ c.in-Some.call ∷ into_iter_items c.next.new.self = c.in-Some.ensures.steps.0 in
    let next = one_taken calls n c.in-Some.call _ (inv.2 ∙ step) in (
      tt,
      tt,
      rw pushed.len next.1,
      rw (pushed.len, pushed.items, next.0) (one_more_made _ _ _ (take n calls) (vec_items c.loop-call.answers) c.in-Some.call _ inv.3 c.call.ensures.steps),
      omega (arith, inv.4, pushed.capacity),
    )

pub push_reserved-requires : goal.push_reserved-requires
push_reserved-requires g c =
    let step : into_iter_items c.loop-call.call-iterator ≡ c.in-Some.call ∷ into_iter_items c.next.new.self = c.in-Some.ensures.steps.0 in
    let next : vec_len c.loop-call.answers < length (into_iter_items c.into_iter-call-iterator.result) =
    (one_taken (into_iter_items c.into_iter-call-iterator.result) _ c.in-Some.call _ (c.loop-call.invariant.2 ∙ step)).2 in
    omega (arith, next, c.loop-call.invariant.4)

pub returns : goal.returns
returns g c =
    let inv = c.loop-call.invariant in
    let none : length (into_iter_items c.loop-call.call-iterator) ≡ 0 = sym c.loop-call.call-iterator.rest.ok.0 ∙ c.in-None.ensures.steps.0 in
    let becomes : into_iter_items c.into_iter-call-iterator.result ≡ vec_items c.args.calls = c.into_iter-call-iterator.ensures.into_iter_gives.0 in
    let all : take (vec_len c.loop-call.answers) (into_iter_items c.into_iter-call-iterator.result) ≡ vec_items c.args.calls =
    all-taken (into_iter_items c.into_iter-call-iterator.result) (into_iter_items c.loop-call.call-iterator) _ inv.2 none ∙ becomes in
    record { after = rw all at inv.3 }
