-- Houses whose plan, wire, rooms and books are equal are equal, since what else a house keeps are facts about these. A list in
-- which a place is written what stands there is as it was.
use Rattle.std.proofs.Common.{◌≡◌, ℕ, map, length, get_or, set, IfErr, Ok, Err, vec_items, vec_len, Result, Vec, sym, ap, ◌∙◌, length-set}
use mathlib.Core.HLevel.{is_prop→PathP}
use denote.Struct.Props.{props}
use Rattle.std.specs.Vec.{with_item}
use Rattle.std.proofs.lemmas.List.{set-get_or}
use Rattle.lists.specs.Words.{rising}
use Rattle.plan.specs.Plans.{plan_of}
use Rattle.house.specs.declared.house.House.{House}
use Rattle.house.specs.Numbers.{room_number}

module _ {W B : Type 0} (h q : House W B) (plan : q.plan ≡ h.plan) (wire : q.wire ≡ h.wire) (rooms : q.rooms ≡ h.rooms) (books : q.books ≡ h.books) where
  pub same_house : q ≡ h
  same_house = λ i. record {
    plan = plan i;
    wire = wire i;
    rooms = rooms i;
    books = books i;
    roomed = is_prop→PathP (λ i. vec_len (rooms i) ≡ (plan_of (plan i)).rooms) (λ i. hlevel props) q.roomed h.roomed i;
    numbered = is_prop→PathP (λ i. map room_number (vec_items (rooms i)) ≡ rising 0 (plan_of (plan i)).rooms) (λ i. hlevel props) q.numbered h.numbered i;
    booked = is_prop→PathP (λ i. vec_len (books i) ≡ (plan_of (plan i)).rooms) (λ i. hlevel props) q.booked h.booked i;
  }

pub with_item_same : {X Z : Type 0} (v : Vec X Z) (i : ℕ) (x : X) → x ≡ get_or (vec_items v) i x → with_item v i x ≡ v
with_item_same v i x e =
    let items : set (vec_items v) i x ≡ vec_items v = ap (set (vec_items v) i) e ∙ set-get_or (vec_items v) i x in
    λ j. record {
      ptr = v.ptr;
      len = v.len;
      cap = v.cap;
      alloc = v.alloc;
      items = items j;
      small = v.small;
      ok = (is_prop→PathP (λ j. v.len ≡ length (items j)) (λ j. hlevel props) (v.ok.0 ∙ sym (length-set (vec_items v) i x)) v.ok.0 j, v.ok.1);
    }

pub refused_map : {A E : Type 0} {P Q : E → Type 0} (r : Result A E) → ((e : E) → P e → Q e) → IfErr r P → IfErr r Q
refused_map (Ok a) f h = tt
refused_map (Err e) f h = f e h
