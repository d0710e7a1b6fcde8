-- After run the house fits its picture again: the mark holds the run on the book as it is.
use Rattle.std.proofs.Common.{◌≡◌, ℕ, Bool, true, false, cond, ◌&&◌, eqb, is_some, Some, None, sym, refl, ap, ◌∙◌, inl, inr}
use mathlib.Core.Path.{fun_ext}
use Rattle.std.proofs.lemmas.Bool.{cases_eq, eqb-true, eq-eqb, ne_eqb}
use Rattle.lists.specs.Words.{member, updated}
use Rattle.lists.proofs.Updates.{updated_each}
use Rattle.refusals.specs.declared.refusal.Refusal.TheVariants.{UnknownBatch, NotMaster, AlreadyInstalled, AlreadyMarked, NotFirst}
use Rattle.stock.specs.Stock.{Amounts, packed}
use Rattle.batches.specs.Batches.{Batch}
use Rattle.batches.specs.Runs as runs
use Rattle.batches.specs.declared.outcome.RunResult.{RunResult}
use Rattle.order.specs.Works.{Works, set_of, has_base}
use Rattle.agreement.specs.Rooms.{Room, heard_here, is_marked, marked_result, first_in_lines, result_of, room_run, run_cause}
use Rattle.agreement.specs.Houses.{Given, House, works}
use Rattle.agreement.specs.Calls.{cause, run, after_run}
use Rattle.agreement.proofs.Pictures.{Scene, Picture, Invariant, after, put, picture_run, MayRun}
use Rattle.agreement.proofs.Puts.{put-there}
use Rattle.agreement.proofs.KeepRun.{run-keeps}
use Rattle.agreement.proofs.Causes.{passed, passed_not, room_passed}
use Rattle.agreement.proofs.Known.{run_cause-same}
use Rattle.agreement.proofs.Leads.{first-is_first}
use Rattle.agreement.proofs.Packing.{unpacked-packed}
use Rattle.agreement.proofs.Fits.{unpacked, RoomFits, Fits, heard-listed, known, heard-known}

module _ (g : Given) (w : Scene) (s : Picture) (h : House) (o : Fits g w s h) (k b : ℕ) (c : cause g h (run k b) ≡ None) where
  abbrev ws : Works
  ws = w.works

  abbrev i : Invariant w s
  i = o.inv

  abbrev r : Room
  r = h.room k

  abbrev s' : Picture
  s' = picture_run w s k b

  checks : (heard_here r b ≡ true) × (ws.master b ≡ k) × (member b r.installed ≡ false) × (first_in_lines ws r b ≡ true)
  checks =
      let c0 = room_passed g.plan k (run_cause (works g h) k r b) c in
      let c1 = passed_not (heard_here r b) UnknownBatch _ (sym (run_cause-same (works g h) ws r (heard-known g w s h o k) k b) ∙ c0.1) in
      let c2 = passed_not (eqb (ws.master b) k) NotMaster _ c1.1 in
      let c3 = passed (member b r.installed) AlreadyInstalled _ c2.1 in
      let c4 = passed (is_marked r b) AlreadyMarked _ c3.1 in
      let c5 = passed_not (first_in_lines ws r b) NotFirst None c4.1 in
      (c1.0, eqb-true _ _ c2.0, c3.0, c5.0)

  hb : member b (s.heard k) ≡ true
  hb = sym (heard-listed w s i k r (o.rooms k) b) ∙ checks.0

  new : s.installed k b ≡ false
  new = (o.rooms k).installed_is b ∙ checks.2

  pub may_run : MayRun w s k b
  may_run = record { home = checks.1; heard = hb; new = new; leading = first-is_first w s i k r (o.rooms k) b hb new checks.3 }

  abbrev result : RunResult
  result = result_of ((works g h).batch b) (h.book k).amounts

  same-result : (x : ℕ) → has_base ws b x ≡ true → unpacked (set_of ws b) result.amounts x ≡ after w b (s.book k) x
  same-result x hx = ap (λ (z : Batch). unpacked (set_of ws b) (packed z.set (runs.run z (h.book k).amounts).after) x) (known g w s h o k b hb).0 ∙
      unpacked-packed (set_of ws b) (after w b (h.book k).amounts) x hx ∙ ap (λ (m : Amounts). after w b m x) (sym (fun_ext (o.books k)))

  marked-here : (a : ℕ) → put s.marked k b true k a ≡ is_some (updated r.mark b (Some result) a)
  marked-here a = elim (cases_eq a b) [
    | inl e ↦ let t : eqb a b ≡ true = eq-eqb a b e in let kk : eqb k k ≡ true = eq-eqb k k refl in rw (t, kk)
    | inr ne ↦ let f : eqb a b ≡ false = ne_eqb a b ne in rw f (out (eqb k k) (s.marked k a) ∙ (o.rooms k).marked_is a)
  ]
    where
      out : (t m : Bool) → cond (t && false) true m ≡ m
      out true m = refl
      out false m = refl

  result-here : (a x : ℕ) → is_some (updated r.mark b (Some result) a) ≡ true → has_base ws a x ≡ true →
      unpacked (set_of ws a) (marked_result (room_run (works g h) r (h.book k) b) a).amounts x ≡ s'.result k a x
  result-here a x m hx = elim (cases_eq a b) [
    | inl e ↦ rw e (let t : eqb b b ≡ true = eq-eqb b b refl in let kk : eqb k k ≡ true = eq-eqb k k refl in rw (t, kk) (same-result x (rw e at hx)))
    | inr ne ↦ let f : eqb a b ≡ false = ne_eqb a b ne in rw f ((o.rooms k).result_is a x (rw f at m) hx ∙ sym (ap (λ (v : Amounts). v x) (out (eqb k k) (after w b (s.book k)) (s.result k a))))
  ]
    where
      out : (t : Bool) (u v : Amounts) → cond (t && false) u v ≡ v
      out true u v = refl
      out false u v = refl

  other_room : (n : ℕ) → (n ≡ k → ⊥) → RoomFits w s' n (h.room n)
  other_room n ne = let z = o.rooms n in record {
    waiting_is = z.waiting_is;
    settled_is = z.settled_is;
    installed_is = z.installed_is;
    installed_once = z.installed_once;
    installed_order = z.installed_order;
    marked_is = λ a. put-there s.marked k b n a ne ∙ z.marked_is a;
    result_is = λ a x m hx. z.result_is a x m hx ∙ (let f : eqb n k ≡ false = ne_eqb n k ne in rw f);
    serializer_is = z.serializer_is;
  }

  pub fits-run : Fits g w (picture_run w s k b) (after_run g h k b)
  fits-run = record {
    inv = run-keeps w s i k b may_run;
    released_once = o.released_once;
    books = o.books;
    batches = o.batches;
    masters = o.masters;
    wire = let v = o.wire in record {
      definitive_is = v.definitive_is;
      heard_is = v.heard_is;
      taken_is = v.taken_is;
      numbered_posted = v.numbered_posted;
      heard_posted = v.heard_posted;
      announced_are = v.announced_are;
      serializers_are = v.serializers_are;
      amounts_are = v.amounts_are;
      received_are = v.received_are;
      received_low = v.received_low;
    };
    rooms = updated_each h.room k (room_run (works g h) r (h.book k) b) (RoomFits w s')
        (let z = o.rooms k in record {
          waiting_is = z.waiting_is;
          settled_is = z.settled_is;
          installed_is = z.installed_is;
          installed_once = z.installed_once;
          installed_order = z.installed_order;
          marked_is = marked-here;
          result_is = result-here;
          serializer_is = z.serializer_is;
        }) other_room;
  }
