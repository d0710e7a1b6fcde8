-- A settle counts what changed: who moves is new in the settled list, and a mark is borne before and not after exactly by
-- those who lose it.
use Rattle.std.proofs.Common.{◌≡◌, ℕ, Bool, true, false, cond, not, ◌&&◌, List, [], ◌∷◌, ◌++◌, length, sym, ap, ◌∙◌, inl, inr, arith, length-append}
use Rattle.std.proofs.lemmas.List.{length_push}
use Rattle.std.proofs.lemmas.Bool.{cases_Bool}
use Rattle.lists.specs.Words.{member, keep}
use Rattle.lists.proofs.Keeps.{keep-keep, keep_same, keep-none, member-keep}
use Rattle.order.specs.Works.{Works, share}
use Rattle.agreement.specs.Rooms.{Room, is_marked, gone_ahead, still_waiting, thrown, room_settled, room_settle, ahead_count}
use Rattle.agreement.specs.Promises.{SettleCounts}
use Rattle.agreement.proofs.FitSettle.{marked_off}

lost-test : (sh m st : Bool) → ((sh && m) && st) ≡ (m && not (not ((sh && m) && st) && m))
lost-test sh m st = grind arith

both-not : (m : Bool) → (m && not m) ≡ false
both-not m = grind arith

module _ (w : Works) (k : ℕ) (r : Room) (t : ℕ) where
  abbrev gone : List ℕ
  gone = gone_ahead w k r t

  abbrev lost : List ℕ
  lost = thrown w k r t

  settled_is : (c : Bool) → member t r.waiting ≡ c → room_settle w k r t ≡ cond c (room_settled w k r t) r
  settled_is c e = ap (λ c. cond c (room_settled w k r t) r) e

  -- of those that wait, the ones that lose a mark
  lost_is : lost ≡ keep (λ a. is_marked r a && not (is_marked (room_settled w k r t) a)) r.waiting
  lost_is = keep-keep (λ a. share w a t && is_marked r a) (λ a. not (member a (gone ++ t ∷ []))) r.waiting ∙ keep_same _ _ r.waiting (λ a m.
      lost-test (share w a t) (is_marked r a) (not (member a (gone ++ t ∷ []))) ∙
      ap (λ c. is_marked r a && not (not c && is_marked r a)) (sym (lost-member a m)) ∙ ap (λ c. is_marked r a && not c) (sym (marked_off (member a lost) (r.mark a))))
    where
      lost-member : (a : ℕ) → member a r.waiting ≡ true → member a lost ≡ ((share w a t && is_marked r a) && not (member a (gone ++ t ∷ [])))
      lost-member a m = member-keep (λ a. share w a t && is_marked r a) a (still_waiting w k r t) ∙ ap (λ c. (share w a t && is_marked r a) && c) (member-keep (λ a. not (member a (gone ++ t ∷ []))) a r.waiting ∙ there _ _ m)
        where
          there : (x y : Bool) → y ≡ true → (x && y) ≡ x
          there x y e = grind arith

  pub settle_counts : SettleCounts w k r t
  settle_counts = record {
    ahead = λ e. ap (λ (x : Room). length x.settled) (settled_is true e) ∙ (let y = length-append r.settled (gone ++ t ∷ []) in let z = length_push gone t in
        let c : ahead_count w k r t ≡ length gone = ap (λ c. cond c (length gone) 0) e in omega (arith, y, z, c));
    thrown = elim (cases_Bool (member t r.waiting)) [
      | inl e ↦ ap (λ c. cond c (length lost) 0) e ∙ ap length lost_is ∙ sym (ap (λ (x : Room). length (keep (λ a. is_marked r a && not (is_marked x a)) r.waiting)) (settled_is true e))
      | inr e ↦ ap (λ c. cond c (length lost) 0) e ∙ sym (ap (λ (x : Room). length (keep (λ a. is_marked r a && not (is_marked x a)) r.waiting)) (settled_is false e) ∙
          ap (length {A = ℕ}) (keep-none (λ a. is_marked r a && not (is_marked r a)) r.waiting (λ a _. both-not (is_marked r a))))
    ];
    none = settled_is false;
  }
