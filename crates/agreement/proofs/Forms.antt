-- A room's lists in closed form, as the picture has them, and that no list outgrows the number of posts: none repeats, and
-- all that stand in one are posted.
use Rattle.std.proofs.Common.{◌≡◌, ℕ, ◌<◌, ◌≤◌, true, not, ◌&&◌, eqb, List, length, take, sym, ap, ◌∙◌, inl, inr, arith}
use mathlib.Core.Path.{fun_ext}
use lib.ListN.{length-map}
use Rattle.std.proofs.lemmas.List.{take_at}
use Rattle.std.proofs.lemmas.Bool.{cases_Bool, and_parts}
use Rattle.lists.specs.Words.{member, any, keep, Distinct}
use Rattle.lists.proofs.Keeps.{keep_same, member-keep}
use Rattle.lists.proofs.Distincts.{distinct_keep, distinct_short}
use Rattle.wire.specs.declared.announcement.Announcement.{Announcement}
use Rattle.order.specs.Order.{house_order}
use Rattle.order.proofs.Walks.{order-once}
use Rattle.agreement.specs.Houses.{Given, House, works}
use Rattle.agreement.specs.Promises.{own_heard, settling_order, ClosedForm, Bounded}
use Rattle.agreement.proofs.Pictures.{Scene, Picture, Invariant, sits, own_order, settled_of}
use Rattle.agreement.proofs.Standing.{settled-heard}
use Rattle.agreement.proofs.Lines.{member_own, member_settled, member-waiting}
use Rattle.agreement.proofs.Announced.{announced_by, announced-once}
use Rattle.agreement.proofs.Fits.{Fits, heard-listed}
use Rattle.agreement.proofs.Pictured.{AllRight, scene_of}

module _ (g : Given) (h : House) (hP : AllRight h.wire.posts) (s : Picture) (o : Fits g (scene_of g h hP) s h) where
  abbrev w : Scene
  w = scene_of g h hP

  abbrev i : Invariant (scene_of g h hP) s
  i = o.inv

  taken_is : (k : ℕ) → take (h.wire.taken k) h.wire.definitive ≡ s.taken k
  taken_is k = ap (take (h.wire.taken k)) (sym o.wire.definitive_is ∙ (i.front k).1) ∙ take_at (s.taken k) (i.front k).0 (h.wire.taken k) (o.wire.taken_is k)

  settling_is : (k : ℕ) → settling_order g h k ≡ own_order w s k
  settling_is k = ap (house_order (works g h) (own_heard h.wire.tentative k)) (taken_is k) ∙ ap (λ (T : ℕ → List ℕ). house_order (works g h) (own_heard T k) (s.taken k)) (sym (fun_ext o.wire.heard_is))

  pub closed_form : (k : ℕ) → ClosedForm g h k
  closed_form k = record {
    settled = (o.rooms k).settled_is ∙ keep_same (λ b. not (s.installed k b)) (λ b. not (member b (h.room k).installed)) (own_order w s k) (λ b _. ap not ((o.rooms k).installed_is b)) ∙
        ap (keep (λ b. not (member b (h.room k).installed))) (sym (settling_is k));
    waiting = (o.rooms k).waiting_is ∙ keep_same _ (λ b. not (member b (h.room k).installed) && not (member b (settling_order g h k))) (s.heard k)
        (λ b _. ap (λ x. not x && not (any (sits w s k b) (s.taken k))) ((o.rooms k).installed_is b) ∙ ap (λ x. not (member b (h.room k).installed) && not x) (sym (ap (member b) (settling_is k) ∙ member_own w s k b))) ∙
        ap (keep (λ b. not (member b (h.room k).installed) && not (member b (settling_order g h k)))) (o.wire.heard_is k);
    heard = λ b. heard-listed w s i k (h.room k) (o.rooms k) b ∙ ap (member b) (o.wire.heard_is k);
  }

  heard_low : (k b : ℕ) → member b (s.heard k) ≡ true → b < length h.wire.posts
  heard_low k b m = o.wire.heard_posted k b (ap (member b) (sym (o.wire.heard_is k)) ∙ m)

  own_once : (k m : ℕ) → Distinct (own_heard s.heard k m)
  own_once k m = elim (cases_Bool (eqb m k)) [ inl t ↦ rw t (i.heard_once m) | inr f ↦ rw f tt ]

  settled_low : (k b : ℕ) → member b (settled_of w s k) ≡ true → b < length h.wire.posts
  settled_low k b m = heard_low k b (settled-heard w s i k b (and_parts _ _ (sym (member_settled w s k b) ∙ m)).1)

  announced_low : (m b : ℕ) → member b (announced_by h.wire m) ≡ true → b < length h.wire.posts
  announced_low m b z =
      let y = and_parts (eqb (w.works.master b) m) (member b s.released) (sym (member-keep (λ a. eqb (w.works.master a) m) b s.released) ∙ ap (member b) (sym (o.wire.announced_are m)) ∙ z) in
      heard_low (w.works.master b) b (i.installed_heard (w.works.master b) b (i.home_first b y.1))

  -- a list of different posted batches
  short : length h.wire.posts ≤ 256 → (l : List ℕ) → Distinct l → ((b : ℕ) → member b l ≡ true → b < length h.wire.posts) → length l ≤ 256
  short few l d low = distinct_short 256 l d (λ b m. let z = low b m in omega (arith, z, few))

  pub bounded : length h.wire.posts ≤ 256 → Bounded h
  bounded few = record {
    posts = few;
    definitive = short few h.wire.definitive (rw (sym o.wire.definitive_is) i.numbered_once) o.wire.numbered_posted;
    tentative = λ k. short few (h.wire.tentative k) (rw (sym (o.wire.heard_is k)) (i.heard_once k)) (o.wire.heard_posted k);
    announced = λ m. let z = short few (announced_by h.wire m) (announced-once w s h.wire o.wire o.released_once m) (announced_low m) in
        let y = length-map (h.wire.announced m) (λ (a : Announcement). a.batch) in omega (arith, z, y);
    waiting = λ k. short few (h.room k).waiting (rw (o.rooms k).waiting_is (distinct_keep _ (s.heard k) (i.heard_once k)))
        (λ b m. heard_low k b (and_parts _ _ (sym (member-waiting w s k b) ∙ ap (member b) (sym (o.rooms k).waiting_is) ∙ m)).1);
    settled = λ k. short few (h.room k).settled (rw (o.rooms k).settled_is (distinct_keep _ (own_order w s k) (order-once w.works (own_heard s.heard k) (own_once k) (s.taken k))))
        (λ b m. settled_low k b (ap (member b) (sym (o.rooms k).settled_is) ∙ m));
    installed = λ k. short few (h.room k).installed (o.rooms k).installed_once (λ b m. heard_low k b (i.installed_heard k b ((o.rooms k).installed_is b ∙ m)));
  }
