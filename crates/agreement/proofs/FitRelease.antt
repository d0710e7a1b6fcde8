-- After release the house fits its picture again: the announcement holds the batch, its serializer and the amounts in its
-- mark, and no other room has installed it.
use Rattle.std.proofs.Common.{◌≡◌, ℕ, ◌<◌, ◌≤◌, Bool, true, false, cond, not, ◌&&◌, eqb, ltb, [], ◌∷◌, ◌++◌, map, length, get_or, is_some, None, sym, refl, ap, ◌∙◌, inl, inr, append-nil, arith}
use Rattle.std.proofs.lemmas.List.{get_or_append_left, length_push, map_push}
use Rattle.std.proofs.lemmas.Bool.{cases_Bool, eqb-true, eq-eqb, ne_eqb, and_parts, le-ltb, both_ways}
use Rattle.lists.specs.Words.{member, any, first, keep, updated}
use Rattle.lists.proofs.Ends.{each_push}
use Rattle.lists.proofs.Members.{any_same}
use Rattle.lists.proofs.Keeps.{keep_append, keep_same, without_cases}
use Rattle.lists.proofs.Fronts.{front-any}
use Rattle.lists.proofs.Distincts.{distinct_push}
use Rattle.lists.proofs.Updates.{updated-here, updated-there, updated_each}
use Rattle.refusals.specs.declared.refusal.Refusal.TheVariants.{UnknownBatch, NotMaster, AlreadyInstalled, NotMarked, StillWaiting}
use Rattle.stock.specs.Stock.{Amounts}
use Rattle.wire.specs.Calls.{no_announcement}
use Rattle.wire.specs.declared.announcement.Announcement.{Announcement}
use Rattle.order.specs.Works.{Works, set_of, has_base}
use Rattle.order.specs.Laws.{goes_with, serializer}
use Rattle.agreement.specs.Rooms.{Room, heard_here, is_marked, marked_result, announcement_of, room_release, release_cause}
use Rattle.agreement.specs.Houses.{Given, House, works}
use Rattle.agreement.specs.Calls.{cause, release, after_release}
use Rattle.agreement.proofs.Pictures.{Scene, Picture, Invariant, sits, seat, put, serializer_of, picture_release, MayRelease}
use Rattle.agreement.proofs.Puts.{clash, put-there, put_other, not-put}
use Rattle.agreement.proofs.Standing.{sits_own, seat_own}
use Rattle.agreement.proofs.KeepRelease.{release-keeps, release-front, unreleased}
use Rattle.agreement.proofs.Causes.{passed, passed_not, room_passed}
use Rattle.agreement.proofs.Known.{release_cause-same}
use Rattle.agreement.proofs.Fits.{unpacked, announcement, RoomFits, Fits, settled-sits, heard-listed, announced-released, heard-known, heard-settled}
use Rattle.agreement.proofs.FitSettle.{marked_off, off_parts}
use Rattle.agreement.proofs.FitInstalled.{installed-new, order-new, settled-new, waiting_other, settled_other, books-new}

-- tests
wait_none : (i a e : Bool) → (e ≡ true → a ≡ true) → (not i && not a) ≡ ((not e && not i) && not a)
wait_none i a e k = grind arith

put_off : (c x : Bool) → cond c false x ≡ (not c && x)
put_off c x = grind arith

module _ (g : Given) (w : Scene) (s : Picture) (h : House) (o : Fits g w s h) where
  abbrev ws : Works
  ws = w.works

  abbrev i : Invariant w s
  i = o.inv

  -- a settled batch of this room: the serializer in its record is its serializer
  pub settled-goes : (k b : ℕ) → ws.master b ≡ k → member b (h.room k).settled ≡ true → any (goes_with ws s.heard b) (s.taken k) ≡ true
  settled-goes k b e m = any_same (goes_with ws s.heard b) (sits w s k b) (s.taken k) (λ v _. sym (sits_own w s k b v e)) ∙
      (and_parts (not (s.installed k b)) (any (sits w s k b) (s.taken k)) (sym (settled-sits w s i k (h.room k) (o.rooms k) b) ∙ m)).1

  serializer-here : (k b : ℕ) → ws.master b ≡ k → any (goes_with ws s.heard b) (s.taken k) ≡ true → get_or (s.taken k) (seat w s k b) 0 ≡ serializer_of w s b
  unfolding serializer
  serializer-here k b e a =
      let z = front-any s.definitive (s.taken k) (i.front k).0 (i.front k).1 (goes_with ws s.heard b) a in
      ap (λ j. get_or (s.taken k) j 0) (seat_own w s k b e ∙ sym z.0) ∙
      sym (get_or_append_left (s.taken k) (i.front k).0 0 (first (goes_with ws s.heard b) s.definitive) (omega (arith, z.0, z.1))) ∙
      ap (λ l. get_or l (first (goes_with ws s.heard b) s.definitive) 0) (sym (i.front k).1)

  module _ (k b : ℕ) (c : cause g h (release k b) ≡ None) where
    abbrev r : Room
    r = h.room k

    abbrev ann : Announcement
    ann = announcement_of (h.room k) b

    pub checks : (heard_here r b ≡ true) × (ws.master b ≡ k) × (member b r.installed ≡ false) × (is_marked r b ≡ true) × (member b r.settled ≡ true)
    checks =
        let c0 = room_passed g.plan k (release_cause (works g h) k r (h.book k) b) c in
        let c1 = passed_not (heard_here r b) UnknownBatch _ (sym (release_cause-same (works g h) ws r (heard-known g w s h o k) k (h.book k) b) ∙ c0.1) in
        let c2 = passed_not (eqb (ws.master b) k) NotMaster _ c1.1 in
        let c3 = passed (member b r.installed) AlreadyInstalled _ c2.1 in
        let c4 = passed_not (is_marked r b) NotMarked _ c3.1 in
        let c5 = passed (member b r.waiting) StillWaiting _ c4.1 in
        (c1.0, eqb-true _ _ c2.0, c3.0, c4.0, heard-settled r b c1.0 c5.0 c3.0)

    goes : any (goes_with ws s.heard b) (s.taken k) ≡ true
    goes = settled-goes k b checks.1 checks.4

    pub may_release : MayRelease w s k b
    may_release = record { marked = (o.rooms k).marked_is b ∙ checks.3; settled = goes }

    hb : member b (s.heard k) ≡ true
    hb = sym (heard-listed w s i k r (o.rooms k) b) ∙ checks.0

    pub fresh : member b s.released ≡ false
    fresh = unreleased w s i k b may_release

    abbrev s' : Picture
    s' = picture_release w s k b

    -- what holds of each announcement and of the new one holds of each after it
    each_announced : (P : ℕ → ℕ → Announcement → Type 0) → ((m j : ℕ) → j < length (h.wire.announced m) → P m j (announcement h.wire m j)) → P k (length (h.wire.announced k)) ann →
        (m j : ℕ) → j < length (updated h.wire.announced k (h.wire.announced k ++ ann ∷ []) m) → P m j (get_or (updated h.wire.announced k (h.wire.announced k ++ ann ∷ []) m) j no_announcement)
    each_announced P old new = updated_each h.wire.announced k (h.wire.announced k ++ ann ∷ []) (λ m l. (j : ℕ) → j < length l → P m j (get_or l j no_announcement))
        (each_push (P k) (h.wire.announced k) ann no_announcement (old k) new) (λ m _. old m)

    announced-new : (m : ℕ) → map (λ (a : Announcement). a.batch) (updated h.wire.announced k (h.wire.announced k ++ ann ∷ []) m) ≡ keep (λ a. eqb (ws.master a) m) (s.released ++ b ∷ [])
    announced-new = updated_each h.wire.announced k (h.wire.announced k ++ ann ∷ []) (λ m l. map (λ (a : Announcement). a.batch) l ≡ keep (λ a. eqb (ws.master a) m) (s.released ++ b ∷ []))
        (map_push (λ (a : Announcement). a.batch) (h.wire.announced k) ann ∙ ap (λ l. l ++ b ∷ []) (o.wire.announced_are k) ∙
        sym (keep_append (λ a. eqb (ws.master a) k) s.released (b ∷ []) ∙ ap (λ l. keep (λ a. eqb (ws.master a) k) s.released ++ l) (let t : eqb (ws.master b) k ≡ true = eq-eqb _ _ checks.1 in rw t)))
        (λ m ne. o.wire.announced_are m ∙ sym (keep_append (λ a. eqb (ws.master a) m) s.released (b ∷ []) ∙
        ap (λ l. keep (λ a. eqb (ws.master a) m) s.released ++ l) (let t : eqb (ws.master b) m ≡ false = ne_eqb _ _ (λ z. ne (sym z ∙ checks.1)) in rw t) ∙ append-nil _))

    other_batch : (a : ℕ) → member a s.released ≡ true → a ≡ b → ⊥
    other_batch a m e = both_ways (member b s.released) fresh (rw e at m)

    received-new : (m j : ℕ) → j < length (updated h.wire.announced k (h.wire.announced k ++ ann ∷ []) m) → (n : ℕ) → (n ≡ m → ⊥) →
        put s.installed k b true n (get_or (updated h.wire.announced k (h.wire.announced k ++ ann ∷ []) m) j no_announcement).batch ≡ ltb j (h.wire.received n m)
    received-new = each_announced (λ m j a. (n : ℕ) → (n ≡ m → ⊥) → put s.installed k b true n a.batch ≡ ltb j (h.wire.received n m))
        (λ m j l n ne. put_other s.installed k b n _ (λ _. other_batch _ (announced-released w s h.wire o.wire m j l).0) ∙ o.wire.received_are n m j ne l)
        (λ n ne. put-there s.installed k b n b ne ∙ nowhere n ∙ sym (le-ltb _ _ (o.wire.received_low n k)))
      where
        nowhere : (n : ℕ) → s.installed n b ≡ false
        nowhere n = elim (cases_Bool (s.installed n b)) [ inr f ↦ f | inl t ↦ clash (member b s.released) (i.installed_released n b t) fresh ]

    amounts-new : (m j : ℕ) → j < length (updated h.wire.announced k (h.wire.announced k ++ ann ∷ []) m) → (x : ℕ) →
        has_base ws (get_or (updated h.wire.announced k (h.wire.announced k ++ ann ∷ []) m) j no_announcement).batch x ≡ true →
        unpacked (set_of ws (get_or (updated h.wire.announced k (h.wire.announced k ++ ann ∷ []) m) j no_announcement).batch)
        (get_or (updated h.wire.announced k (h.wire.announced k ++ ann ∷ []) m) j no_announcement).result.amounts x ≡
        updated s.announced b (s.result k b) (get_or (updated h.wire.announced k (h.wire.announced k ++ ann ∷ []) m) j no_announcement).batch x
    amounts-new = each_announced (λ m j a. (x : ℕ) → has_base ws a.batch x ≡ true → unpacked (set_of ws a.batch) a.result.amounts x ≡ updated s.announced b (s.result k b) a.batch x)
        (λ m j l x hx. o.wire.amounts_are m j x l hx ∙
        sym (ap (λ (f : Amounts). f x) (updated-there s.announced b (s.result k b) _ (other_batch _ (announced-released w s h.wire o.wire m j l).0))))
        (λ x hx. (o.rooms k).result_is b x checks.3 hx ∙ sym (ap (λ (f : Amounts). f x) (updated-here s.announced b (s.result k b))))

    low_new : (n m : ℕ) → h.wire.received n m ≤ length (updated h.wire.announced k (h.wire.announced k ++ ann ∷ []) m)
    low_new n = updated_each h.wire.announced k (h.wire.announced k ++ ann ∷ []) (λ m l. h.wire.received n m ≤ length l)
        (let z = length_push (h.wire.announced k) ann in let y = o.wire.received_low n k in omega (arith, z, y)) (λ m _. o.wire.received_low n m)

    marked-here : (a : ℕ) → put s.marked k b false k a ≡ is_some (updated r.mark b None a)
    marked-here a = put_off (eqb k k && eqb a b) (s.marked k a) ∙ ap (λ t. not (t && eqb a b) && s.marked k a) (eq-eqb k k refl) ∙ ap (λ m. not (eqb a b) && m) ((o.rooms k).marked_is a) ∙ sym (marked_off (eqb a b) (r.mark a))

    result-here : (a x : ℕ) → is_some (updated r.mark b None a) ≡ true → has_base ws a x ≡ true → unpacked (set_of ws a) (marked_result (room_release r b) a).amounts x ≡ s.result k a x
    result-here a x m hx = let z = off_parts (eqb a b) (is_marked r a) (sym (marked_off (eqb a b) (r.mark a)) ∙ m) in rw z.0 ((o.rooms k).result_is a x z.1 hx)

    -- b did not wait, so the waiting list stays
    waiting-here : r.waiting ≡ keep (λ a. not (put s.installed k b true k a) && not (any (sits w s k a) (s.taken k))) (s.heard k)
    waiting-here = (o.rooms k).waiting_is ∙ sym (keep_same _ _ (s.heard k) (λ a _. ap (λ x. x && not (any (sits w s k a) (s.taken k))) (not-put s.installed k b a) ∙
        sym (wait_none (s.installed k a) (any (sits w s k a) (s.taken k)) (eqb a b) (λ t. let e : a ≡ b = eqb-true a b t in rw e seated))))
      where
        seated : any (sits w s k b) (s.taken k) ≡ true
        seated = (and_parts (not (s.installed k b)) (any (sits w s k b) (s.taken k)) (sym (settled-sits w s i k r (o.rooms k) b) ∙ checks.4)).1

    other_room : (n : ℕ) → (n ≡ k → ⊥) → RoomFits w s' n (h.room n)
    other_room n ne = let z = o.rooms n in record {
      waiting_is = waiting_other w s n (h.room n) z k b ne;
      settled_is = settled_other w s n (h.room n) z k b ne;
      installed_is = λ a. put-there s.installed k b n a ne ∙ z.installed_is a;
      installed_once = z.installed_once;
      installed_order = z.installed_order;
      marked_is = λ a. put_off (eqb n k && eqb a b) (s.marked n a) ∙ ap (λ t. not (t && eqb a b) && s.marked n a) (ne_eqb n k ne) ∙ z.marked_is a;
      result_is = z.result_is;
      serializer_is = z.serializer_is;
    }

    this_room : RoomFits w s' k (room_release r b)
    this_room = let z = o.rooms k in record {
      waiting_is = waiting-here;
      settled_is = settled-new w s k r z b;
      installed_is = installed-new w s k r z b;
      installed_once = distinct_push r.installed b z.installed_once checks.2;
      installed_order = order-new w s k r z b checks.2 (release-front w s i k b may_release);
      marked_is = marked-here;
      result_is = result-here;
      serializer_is = λ a m e. z.serializer_is a (without_cases a b r.settled m).1 e;
    }

    pub fits-release : (left : ℕ) → Fits g w (picture_release w s k b) (after_release g h k b left)
    fits-release left = record {
      inv = release-keeps w s i k b may_release;
      released_once = distinct_push s.released b o.released_once fresh;
      batches = o.batches;
      masters = o.masters;
      wire = let v = o.wire in record {
        definitive_is = v.definitive_is;
        heard_is = v.heard_is;
        taken_is = v.taken_is;
        numbered_posted = v.numbered_posted;
        heard_posted = v.heard_posted;
        announced_are = announced-new;
        serializers_are = each_announced (λ m j a. a.serializer ≡ serializer_of w s a.batch) v.serializers_are ((o.rooms k).serializer_is b checks.4 checks.1 ∙ serializer-here k b checks.1 goes);
        amounts_are = λ m j x l. amounts-new m j l x;
        received_are = λ n m j ne l. received-new m j l n ne;
        received_low = low_new;
      };
      rooms = updated_each h.room k (room_release r b) (RoomFits w s') this_room other_room;
      books = books-new g w s h o k b hb (s.result k b) (marked_result r b).amounts left (λ x hx. (o.rooms k).result_is b x checks.3 hx);
    }
