-- The promise whole: its parts put together, with the wire's soundness, and that the wire refuses no announcement, since a
-- batch that may be released was announced by nobody.
use Rattle.std.proofs.Common.{◌≡◌, ℕ, ◌<◌, ◌≤◌, true, false, eqb, leb, List, length, None, sym, refl, ap, ◌∙◌, subst, inl, inr, arith}
use Rattle.std.proofs.lemmas.Bool.{cases_Bool, eqb-true, le-ltb, lt-leb, both_ways}
use Rattle.lists.specs.Words.{member, any, rising}
use Rattle.lists.proofs.Members.{some_of}
use Rattle.lists.proofs.Places.{first_passes, any-short}
use Rattle.refusals.specs.declared.refusal.Refusal.TheVariants.{OutOfRange, UnknownBatch, AlreadyInstalled, OverLimit}
use Rattle.wire.specs.Calls.{no_room, no_announcement, announced_before, amounts_small, announce_cause}
use Rattle.wire.specs.declared.announcement.Announcement.{Announcement}
use Rattle.agreement.specs.Rooms.{announcement_of, release_cause}
use Rattle.agreement.specs.Houses.{Given, House, works}
use Rattle.agreement.specs.Calls.{Call, release, Answer, cause, Performed}
use Rattle.agreement.specs.Promises.{PartsRight, Promise}
use Rattle.agreement.proofs.Pictures.{Scene, Picture}
use Rattle.agreement.proofs.Causes.{pass, pass_not, room_passed}
use Rattle.agreement.proofs.Fits.{Fits, heard-listed, announced-released}
use Rattle.agreement.proofs.FitRelease as releasing
use Rattle.agreement.proofs.Pictured.{AllRight, scene_of, posts-right, picture_of}
use Rattle.agreement.proofs.Agreeing.{books_serial, installed-in_order}
use Rattle.agreement.proofs.Resting.{complete}
use Rattle.agreement.proofs.Telling.{lists_told, taken_low}
use Rattle.agreement.proofs.SettledTold.{settled-told}
use Rattle.agreement.proofs.Replies.{answered}
use Rattle.agreement.proofs.Forms.{closed_form, bounded}
use Rattle.agreement.proofs.Steady.{Steady, rooms_low, openable, steady}

module _ (g : Given) (low : g.plan.rooms ≤ 8) (h : House) (hP : AllRight h.wire.posts) (s : Picture) (o : Fits g (scene_of g h hP) s h) (t : Steady h) where
  abbrev w : Scene
  w = scene_of g h hP

  module _ (k b : ℕ) (c : cause g h (release k b) ≡ None) where
    unannounced : announced_before h.wire b ≡ false
    unannounced = elim (cases_Bool (announced_before h.wire b)) [
      | inr f ↦ f
      | inl y ↦
          let m = some_of (λ m. any (λ (a : Announcement). eqb a.batch b) (h.wire.announced m)) (rising 0 8) y in
          let l = any-short (λ (a : Announcement). eqb a.batch b) (h.wire.announced m.0) m.2 in
          let e = eqb-true _ _ (first_passes (λ (a : Announcement). eqb a.batch b) (h.wire.announced m.0) no_announcement l) in
          absurd (both_ways (member b s.released) (releasing.fresh g w s h o k b c) (subst (λ a. member a s.released ≡ true) e (announced-released w s h.wire o.wire m.0 _ l).0))
    ]

    posted : b < length h.wire.posts
    posted = o.wire.heard_posted k b (ap (member b) (sym (o.wire.heard_is k)) ∙ sym (heard-listed w s o.inv k (h.room k) (o.rooms k) b) ∙ (releasing.checks g w s h o k b c).0)

    announces : announce_cause h.wire k (announcement_of (h.room k) b) ≡ None
    announces =
        pass (no_room k) OutOfRange _ (le-ltb 7 k (let z = (room_passed g.plan k (release_cause (works g h) k (h.room k) (h.book k) b) c).0 in omega (arith, z, low)))
        (pass (leb (length h.wire.posts) b) UnknownBatch _ (lt-leb _ _ posted)
        (pass (announced_before h.wire b) AlreadyInstalled _ unannounced
        (pass_not (amounts_small (announcement_of (h.room k) b)) OverLimit None (t.marks k b) refl)))

  parts-right : PartsRight g h
  parts-right = record {
    books = t.books;
    announces = announces;
    wire = record {
      few = t.few;
      batches_right = hP;
      posts_rooms = t.rooms;
      numbered_once = rw (sym o.wire.definitive_is) o.inv.numbered_once;
      numbered_posted = o.wire.numbered_posted;
      heard_once = λ k. rw (sym (o.wire.heard_is k)) (o.inv.heard_once k);
      heard_posted = o.wire.heard_posted;
      announced_small = t.announced;
      taken_numbered = taken_low g w s h o;
      received_announced = o.wire.received_low;
    };
  }

pub promise-kept : (g : Given) (l : List (Call × Answer)) (h : House) → Performed g l h → Promise g l h
promise-kept g l h p =
    let hP : AllRight h.wire.posts = posts-right g p in
    let z = picture_of g p in
    let t = steady g p in
    let right = openable g p in
    let told = lists_told g p in record {
      books = books_serial g h hP z.0 z.1;
      installed = installed-in_order g h hP z.0 z.1;
      quiet = complete g right.plan h hP z.0 z.1;
      told = record { posted = told.posted; numbered = told.numbered; heard = told.heard; entered = told.entered; installed = told.installed; settled = λ p k b. settled-told g p k b };
      answered = answered g h;
      rooms = closed_form g h hP z.0 z.1;
      bounded = bounded g h hP z.0 z.1 t.few;
      parts = parts-right g (rooms_low g.plan right.plan) h hP z.0 z.1 t;
    }
