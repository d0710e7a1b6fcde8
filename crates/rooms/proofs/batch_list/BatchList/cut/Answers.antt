use Rattle.std.proofs.Common.{◌≡◌, ◌-◌, ◌≤◌, length, take, vec_items, vec_len, vec_capacity, sym, ap, ◌∙◌, arith}
use Rattle.std.specs.Vec.{with_items}
use Rattle.std.proofs.lemmas.List.{with_items_is}
use Rattle.lists.specs.Gaps.{without_at}
use Rattle.lists.specs.Words.{all}
use Rattle.rooms.specs.Records.{known}
use Rattle.rooms.proofs.Removals.{gap_cut, all_left}
use Rattle.rooms.proofs.batch_list.BatchList.cut.Goals as goal

pub invariant_of-self : goal.invariant_of-self
invariant_of-self c =
    let v = c.args.self.now.numbers in
    let at = c.args.at in
    let new = c.close_gap.new.items in
    let read = c.as_mut_slice.result.now in
    let long : vec_len v ≡ length read = sym c.as_mut_slice.ensures.len in
    let is : vec_items (with_items v new) ≡ new = with_items_is v new (c.close_gap.auto.items ∙ c.as_mut_slice.ensures.len) in
    let after : vec_items c.pop.new.self ≡ without_at at (vec_items v) =
    c.pop.ensures.rest ∙ ap (take (vec_len v - 1)) is ∙ ap (λ n. take (n - 1) new) long ∙ gap_cut c.close_gap.result read new at (omega (arith, long, v.ok.0)) c.close_gap.ensures.cases ∙ ap (without_at at) c.as_mut_slice.ensures.value in
    let space : 256 ≤ vec_capacity c.pop.new.self = omega (arith, c.pop.ensures.capacity, c.args.self.now.space) in
    record { space = space; known = ap (all known) after ∙ all_left known at (vec_items v) c.args.self.now.known }
