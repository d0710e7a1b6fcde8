use Rattle.std.proofs.Common.{◌≡◌, ℕ, cond, not, List, [], ◌∷◌, ◌++◌, length, get_or, None, true, vec_items, sym, refl, ap, ◌∙◌, arith}
use Rattle.std.specs.Vec.{with_items}
use Rattle.std.proofs.lemmas.List.{with_items_is, take_rest}
use Rattle.lists.specs.Words.{member, all, keep}
use Rattle.order.specs.Works.{Works}
use Rattle.agreement.specs.Rooms.{Room}
use Rattle.rooms.specs.declared.record.Record.{Record}
use Rattle.rooms.specs.Lists.{numbers_of}
use Rattle.rooms.specs.Records.{blank, known}
use Rattle.rooms.specs.Settles.{ahead_of, would_lose}
use Rattle.rooms.specs.Views.{room_of, works_in}
use Rattle.rooms.proofs.Removals.{all_drop}
use Rattle.rooms.proofs.Settles.{new_part, ahead-counted, thrown-counted, settled_is}
use Rattle.rooms.proofs.room.Room.settle_batch.Goals as goal

pub move_on-ahead-requires : goal.move_on-ahead-requires
move_on-ahead-requires g c = let few = c.args.self.now.few in record { there = sym c.if-not-has.ensures; few = omega arith }

pub name_serializer-requires : goal.name_serializer-requires
name_serializer-requires g c =
    let settled = c.move_on-ahead.new.settled in
    record {
      table = omega (arith, c.args.self.now.table, c.deref_mut.ensures.len);
      known = ap (all known) (take_rest c.as_slice.result.now c.len-before.result) ∙ all_drop known c.len-before.result c.as_slice.result.now (ap (all known) c.as_slice.ensures ∙ settled.known);
    }

pub throw_marks-thrown-requires : goal.throw_marks-thrown-requires
throw_marks-thrown-requires g c =
    record {
      table = omega (arith, c.args.self.now.table, c.deref_mut-2.ensures.len);
      known = ap (all known) c.as_slice-2.ensures ∙ c.move_on-ahead.new.waiting.known;
      few = omega (arith, c.args.self.now.few, c.move_on-ahead.ensures.few, ap length c.as_slice-2.ensures);
    }

pub returns : goal.returns
returns g c =
    let r = c.args.self.now in
    let s : Room = room_of r in
    let w : Works = works_in c.args.works.now in
    let t = c.args.batch in
    let k = r.number in
    let e = c.move_on-ahead.ensures in
    let start = vec_items r.records in
    let there : member t s.waiting ≡ true = sym c.if-not-has.ensures in
    let gone : List ℕ = ahead_of w k s.waiting t ++ t ∷ [] in
    let moved = new_part c.as_slice.result.now c.len-before.result s.settled gone (c.as_slice.ensures ∙ e.settled) (sym c.len-before.ensures) in
    let named = c.name_serializer.new.records in
    let thrown-table = c.throw_marks-thrown.new.records in
    let lent = c.deref_mut.ensures.value in
    let named-long : length named ≡ r.records.len = c.name_serializer.auto.records ∙ c.deref_mut.ensures.len in
    let named-lent : c.deref_mut-2.result.now ≡ named = c.deref_mut-2.ensures.value ∙ with_items_is r.records named named-long in
    let table_is : vec_items (with_items (with_items r.records named) thrown-table) ≡ thrown-table = with_items_is (with_items r.records named) thrown-table (c.throw_marks-thrown.auto.records ∙ c.deref_mut-2.ensures.len) in
    let names : (a : ℕ) → (get_or named a blank).serializer ≡ cond (member a gone) t (get_or start a blank).serializer =
    λ a. c.name_serializer.ensures.names a ∙ ap (λ l. cond (member a l) t (get_or c.deref_mut.result.now a blank).serializer) moved ∙ ap (λ (l : List Record). cond (member a gone) t (get_or l a blank).serializer) lent in
    let marks : (a : ℕ) → (get_or named a blank).mark ≡ (get_or start a blank).mark = λ a. c.name_serializer.ensures.marks a ∙ ap (λ (l : List Record). (get_or l a blank).mark) lent in
    let still : List ℕ = keep (λ b. not (member b gone)) s.waiting in
    let losers : keep (would_lose w c.deref_mut-2.result.now t) c.as_slice-2.result.now ≡ keep (would_lose w named t) still =
    ap (λ (l : List Record). keep (would_lose w l t) c.as_slice-2.result.now) named-lent ∙ ap (keep (would_lose w named t)) (c.as_slice-2.ensures ∙ e.waiting) in
    let lost : (a : ℕ) → (get_or thrown-table a blank).mark ≡ cond (member a (keep (would_lose w named t) still)) None (get_or named a blank).mark =
    λ a. c.throw_marks-thrown.ensures.marks a ∙ ap (λ l. cond (member a l) None (get_or c.deref_mut-2.result.now a blank).mark) losers ∙ ap (λ (l : List Record). cond (member a (keep (would_lose w named t) still)) None (get_or l a blank).mark) named-lent in
    let kept : (a : ℕ) → (get_or thrown-table a blank).serializer ≡ (get_or named a blank).serializer = λ a. c.throw_marks-thrown.ensures.names a ∙ ap (λ (l : List Record). (get_or l a blank).serializer) named-lent in
    let after = settled_is w k t s.waiting s.settled s.installed start named thrown-table there marks (numbers_of c.move_on-ahead.new.waiting) (numbers_of c.move_on-ahead.new.settled) e.waiting e.settled names lost kept in
    record {
      ahead = e.value ∙ ahead-counted w k t s.waiting s.settled s.installed start named thrown-table there;
      thrown = c.throw_marks-thrown.ensures.value ∙ ap length losers ∙ thrown-counted w k t s.waiting s.settled s.installed start named thrown-table there marks;
      after = ap (λ (l : List Record). record { waiting = numbers_of c.move_on-ahead.new.waiting; settled = numbers_of c.move_on-ahead.new.settled; installed = s.installed; mark = (λ a. (get_or l a blank).mark); serializer = (λ a. (get_or l a blank).serializer) }) table_is ∙ after;
      number = refl;
    }
