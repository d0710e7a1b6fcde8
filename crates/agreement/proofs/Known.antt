-- What a room does depends on the batches that it has heard, and on no others: where two tables of batches agree on
-- these, settling and the causes of run, release and install come out the same.
use Rattle.std.proofs.Common.{◌≡◌, ℕ, Bool, true, false, cond, not, ◌&&◌, ◌||◌, eqb, ltb, leb, List, [], ◌∷◌, ◌++◌, Some, None, Option, sym, ap, ◌∙◌, inl, inr, arith}
use mathlib.Core.Path.{fun_ext}
use Rattle.std.proofs.lemmas.Bool.{cases_Bool, or_left, or_right, or_cases, and_parts}
use Rattle.lists.specs.Words.{member, all, before, keep}
use Rattle.lists.proofs.Members.{member-append}
use Rattle.lists.proofs.Keeps.{keep_same, member-keep}
use Rattle.refusals.specs.declared.refusal.Refusal.{Refusal}
use Rattle.refusals.specs.declared.refusal.Refusal.TheVariants.{UnknownBatch, NotMaster, AlreadyInstalled, AlreadyMarked, NotFirst, NotMarked, StillWaiting, NotItsTurn, TooFewSpare, OutOfRange, NothingWaits}
use Rattle.sets.specs.Sets.{bases, size, within, shares}
use Rattle.stock.specs.Stock.{Stock}
use Rattle.batches.specs.Batches.{Batch}
use Rattle.wire.specs.Wire.{Wire}
use Rattle.wire.specs.Calls.{announcement_waits, next_announcement}
use Rattle.wire.specs.declared.announcement.Announcement.{Announcement}
use Rattle.order.specs.Works.{Works, set_of, lies_within, share}
use Rattle.agreement.specs.Rooms.{Room, heard_here, is_marked, line, leads, first_in_lines, first_before, gone_ahead, still_waiting, thrown, room_settled, run_cause, too_few, release_cause, turn_come, install_cause}

module _ (v w : Works) (r : Room) (same : (b : ℕ) → heard_here r b ≡ true → (v.batch b ≡ w.batch b) × (v.master b ≡ w.master b)) where
  waiting-heard : (b : ℕ) → member b r.waiting ≡ true → heard_here r b ≡ true
  waiting-heard b m = or_left (member b r.waiting) (member b r.settled || member b r.installed) m

  line-heard : (b : ℕ) → member b (r.settled ++ r.waiting) ≡ true → heard_here r b ≡ true
  line-heard b m = elim (or_cases (member b r.settled) (member b r.waiting) (sym (member-append b r.settled r.waiting) ∙ m)) [
    | inl t ↦ or_right (member b r.waiting) _ (or_left (member b r.settled) (member b r.installed) t)
    | inr t ↦ waiting-heard b t
  ]

  within_same : (a b : ℕ) → heard_here r a ≡ true → heard_here r b ≡ true → lies_within v a b ≡ lies_within w a b
  within_same a b ha hb = ap (λ (z : Batch). within z.set (set_of v b)) (same a ha).0 ∙ ap (λ (z : Batch). within (set_of w a) z.set) (same b hb).0

  share-same : (a b : ℕ) → heard_here r a ≡ true → heard_here r b ≡ true → share v a b ≡ share w a b
  share-same a b ha hb = ap (λ (z : Batch). shares z.set (set_of v b)) (same a ha).0 ∙ ap (λ (z : Batch). shares (set_of w a) z.set) (same b hb).0

  module _ (k t : ℕ) (waits : member t r.waiting ≡ true) where
    pub gone_same : gone_ahead v k r t ≡ gone_ahead w k r t
    gone_same = ap (λ m. cond (eqb m k) (keep (λ a. (eqb (v.master a) k && lies_within v a t) && before r.waiting a t) r.waiting) []) (same t (waiting-heard t waits)).1 ∙
        ap (λ l. cond (eqb (w.master t) k) l []) (keep_same _ _ r.waiting (λ a m. let ha = waiting-heard a m in
        ap (λ c. (eqb c k && lies_within v a t) && before r.waiting a t) (same a ha).1 ∙ ap (λ b. (eqb (w.master a) k && b) && before r.waiting a t) (within_same a t ha (waiting-heard t waits))))

    still-same : still_waiting v k r t ≡ still_waiting w k r t
    still-same = ap (λ l. keep (λ a. not (member a (l ++ t ∷ []))) r.waiting) gone_same

    still-heard : (a : ℕ) → member a (still_waiting v k r t) ≡ true → heard_here r a ≡ true
    still-heard a m = waiting-heard a (and_parts (not (member a (gone_ahead v k r t ++ t ∷ []))) (member a r.waiting) (sym (member-keep (λ a. not (member a (gone_ahead v k r t ++ t ∷ []))) a r.waiting) ∙ m)).1

    thrown-same : thrown v k r t ≡ thrown w k r t
    thrown-same = keep_same _ (λ a. share w a t && is_marked r a) (still_waiting v k r t) (λ a m. ap (λ b. b && is_marked r a) (share-same a t (still-heard a m) (waiting-heard t waits))) ∙
        ap (keep (λ a. share w a t && is_marked r a)) still-same

    pub settled_same : room_settled v k r t ≡ room_settled w k r t
    settled_same =
        ap (λ (l : List ℕ). from l (thrown v k r t)) gone_same ∙ ap (from (gone_ahead w k r t)) thrown-same
      where
        from : List ℕ → List ℕ → Room
        from gone lost = record {
          waiting = keep (λ a. not (member a (gone ++ t ∷ []))) r.waiting;
          settled = r.settled ++ (gone ++ t ∷ []);
          installed = r.installed;
          mark = (λ a. cond (member a lost) None (r.mark a));
          serializer = (λ a. cond (member a (gone ++ t ∷ [])) t (r.serializer a));
        }

  line_same : (x : ℕ) → line v r x ≡ line w r x
  line_same x = keep_same _ _ (r.settled ++ r.waiting) (λ b m. ap (λ (z : Batch). member x (bases z.set)) (same b (line-heard b m)).0)

  first-same : (b : ℕ) → heard_here r b ≡ true → first_in_lines v r b ≡ first_in_lines w r b
  first-same b hb = ap (λ (z : Batch). all (λ x. leads b (line v r x)) (bases z.set)) (same b hb).0 ∙ ap (λ (f : ℕ → Bool). all f (bases (set_of w b))) (fun_ext (λ x. ap (leads b) (line_same x)))

  first_before-same : (b q : ℕ) → heard_here r b ≡ true → first_before v r b q ≡ first_before w r b q
  first_before-same b q hb = ap (λ (z : Batch). all (λ x. leads q (keep (λ c. eqb c q || not (eqb c b)) (line v r x))) (bases z.set)) (same b hb).0 ∙
      ap (λ (f : ℕ → Bool). all f (bases (set_of w b))) (fun_ext (λ x. ap (λ l. leads q (keep (λ c. eqb c q || not (eqb c b)) l)) (line_same x)))

  pub few-same : (s : Stock) (b : ℕ) → heard_here r b ≡ true → too_few v s b ≡ too_few w s b
  few-same s b hb = ap (λ (z : Batch). ltb s.spare (size z.set)) (same b hb).0

  pub run_cause-same : (k b : ℕ) → run_cause v k r b ≡ run_cause w k r b
  run_cause-same k b = elim (cases_Bool (heard_here r b)) [
    | inr f ↦ rw f
    | inl t ↦ ap (λ m. cond (not (heard_here r b)) (Some UnknownBatch) (cond (not (eqb m k)) (Some NotMaster) (cond (member b r.installed) (Some AlreadyInstalled)
        (cond (is_marked r b) (Some AlreadyMarked) (cond (not (first_in_lines v r b)) (Some NotFirst) None))))) (same b t).1 ∙
        ap (λ c. cond (not (heard_here r b)) (Some UnknownBatch) (cond (not (eqb (w.master b) k)) (Some NotMaster) (cond (member b r.installed) (Some AlreadyInstalled)
        (cond (is_marked r b) (Some AlreadyMarked) (cond (not c) (Some NotFirst) None))))) (first-same b t)
  ]

  pub release_cause-same : (k : ℕ) (s : Stock) (b : ℕ) → release_cause v k r s b ≡ release_cause w k r s b
  release_cause-same k s b = elim (cases_Bool (heard_here r b)) [
    | inr f ↦ rw f
    | inl t ↦ ap (λ m. cond (not (heard_here r b)) (Some UnknownBatch) (cond (not (eqb m k)) (Some NotMaster) (cond (member b r.installed) (Some AlreadyInstalled)
        (cond (not (is_marked r b)) (Some NotMarked) (cond (member b r.waiting) (Some StillWaiting) (cond (too_few v s b) (Some TooFewSpare) None)))))) (same b t).1 ∙
        ap (λ c. cond (not (heard_here r b)) (Some UnknownBatch) (cond (not (eqb (w.master b) k)) (Some NotMaster) (cond (member b r.installed) (Some AlreadyInstalled)
        (cond (not (is_marked r b)) (Some NotMarked) (cond (member b r.waiting) (Some StillWaiting) (cond c (Some TooFewSpare) None)))))) (few-same s b t)
  ]

  turn-heard : (m : ℕ) (a : Announcement) → heard_here r a.batch ≡ true → turn_come v r m a ≡ turn_come w r m a
  turn-heard m a t = ap (λ c. (eqb c m && (heard_here r a.batch && not (member a.batch r.installed))) && (member a.serializer r.settled && first_before v r a.batch a.serializer)) (same a.batch t).1 ∙
      ap (λ c. (eqb (w.master a.batch) m && (heard_here r a.batch && not (member a.batch r.installed))) && (member a.serializer r.settled && c)) (first_before-same a.batch a.serializer t)

  turn_unheard : (u : Works) (m : ℕ) (a : Announcement) → heard_here r a.batch ≡ false → turn_come u r m a ≡ false
  turn_unheard u m a f = ap (λ c. (eqb (u.master a.batch) m && (c && not (member a.batch r.installed))) && (member a.serializer r.settled && first_before u r a.batch a.serializer)) f ∙ out (eqb (u.master a.batch) m) _
    where
      out : (x y : Bool) → ((x && false) && y) ≡ false
      out x y = grind arith

  pub install_cause-same : (rooms : ℕ) (e : Wire) (k : ℕ) (s : Stock) (m : ℕ) → install_cause rooms v e k r s m ≡ install_cause rooms w e k r s m
  install_cause-same rooms e k s m = elim (cases_Bool (heard_here r a.batch)) [
    | inr f ↦ ap (λ c. from c (too_few v s a.batch)) (turn_unheard v m a f) ∙ sym (ap (λ c. from c (too_few w s a.batch)) (turn_unheard w m a f))
    | inl t ↦ ap (λ c. from c (too_few v s a.batch)) (turn-heard m a t) ∙ ap (from (turn_come w r m a)) (few-same s a.batch t)
  ]
    where
      a : Announcement
      a = next_announcement e k m

      from : Bool → Bool → Option Refusal
      from come few = cond (leb rooms m || eqb m k) (Some OutOfRange) (cond (not (announcement_waits e k m)) (Some NothingWaits) (cond (not come) (Some NotItsTurn) (cond few (Some TooFewSpare) None)))
