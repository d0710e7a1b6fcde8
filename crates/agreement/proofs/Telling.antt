-- The lists of a house are what was answered: each call adds to each list just what its answer says.
use Rattle.std.proofs.Common.{◌≡◌, ℕ, ◌+◌, ◌≤◌, Bool, true, false, cond, eqb, List, [], ◌∷◌, ◌++◌, length, take, sym, refl, ap, ◌∙◌, append-nil, arith, length-append}
use Rattle.std.proofs.lemmas.List.{take_more, take-append-le, flat_map_more}
use Rattle.std.proofs.lemmas.Bool.{eq-eqb, ne_eqb}
use Rattle.refusals.specs.declared.refusal.Refusal.{Refusal}
use Rattle.lists.specs.Words.{member, updated}
use Rattle.lists.proofs.Updates.{updated_each}
use Rattle.wire.specs.Wire.{Wire}
use Rattle.wire.specs.Calls.{next_entry}
use Rattle.agreement.specs.Rooms.{Room, room_hear, room_settled, room_settle, room_run, room_release, room_install}
use Rattle.agreement.specs.Houses.{Given, House, works}
use Rattle.agreement.specs.Calls.{Call, post, number, hear, settle, pick, run, release, install, wish, amount, Answer, refused, Answers, refuses, posts, numbers, hears, settles, runs, releases, installs, wishes, tells, picks, arriving, Performed, opens, also}
use Rattle.agreement.specs.Tellings.{posted_by, numbered_by, heard_by, entered_by, installed_by, gathered}
use Rattle.agreement.proofs.Pictures.{Scene, Picture}
use Rattle.agreement.proofs.Fits.{Fits}
use Rattle.agreement.proofs.FitSettle.{ready}
use Rattle.agreement.proofs.Pictured.{scene_of, posts-right, picture_of}

-- the entries that a room has taken
abbrev pub entered : Wire → ℕ → List ℕ
entered v k = take (v.taken k) v.definitive

record Adds (h : House) (c : Call) (a : Answer) (h' : House) : Type 0 where
  posted : h'.wire.posts ≡ h.wire.posts ++ posted_by c a
  numbered : h'.wire.definitive ≡ h.wire.definitive ++ numbered_by c a
  heard : (k : ℕ) → h'.wire.tentative k ≡ h.wire.tentative k ++ heard_by k c a
  enters : (k : ℕ) → entered h'.wire k ≡ entered h.wire k ++ entered_by k c a
  installed : (k : ℕ) → (h'.room k).installed ≡ (h.room k).installed ++ installed_by k c a

same : {A : Type 0} (l : List A) → l ≡ l ++ []
same l = sym (append-nil l)

none : (l : List ℕ) (b : Bool) → l ≡ l ++ cond b [] []
none l true = same l
none l false = same l

-- a list of each room, with more at its end in room r
more_there : {X : Type 0} (f : X → List ℕ) (R : ℕ → X) (r : ℕ) (v : X) (x : List ℕ) → f v ≡ f (R r) ++ x → (k : ℕ) → f (updated R r v k) ≡ f (R k) ++ cond (eqb k r) x []
more_there f R r v x e = updated_each R r v (λ k y. f y ≡ f (R k) ++ cond (eqb k r) x []) (let t : eqb r r ≡ true = eq-eqb r r refl in rw t e)
    (λ k ne. let n : eqb k r ≡ false = ne_eqb k r ne in rw n (same (f (R k))))

-- and one that stays
stays-there : {X : Type 0} (f : X → List ℕ) (R : ℕ → X) (r : ℕ) (v : X) → f v ≡ f (R r) → (k : ℕ) → f (updated R r v k) ≡ f (R k) ++ []
stays-there f R r v e = updated_each R r v (λ k y. f y ≡ f (R k) ++ []) (e ∙ same (f (R r))) (λ k _. same (f (R k)))

refuses_adds : (h : House) (c : Call) (e : Refusal) → Adds h c (refused e) h
refuses_adds h (post room b) e = record { posted = same _; numbered = same _; heard = λ k. same _; enters = λ k. same _; installed = λ k. same _ }
refuses_adds h number e = record { posted = same _; numbered = same _; heard = λ k. same _; enters = λ k. same _; installed = λ k. same _ }
refuses_adds h (hear r) e = record { posted = same _; numbered = same _; heard = λ k. none _ (eqb k r); enters = λ k. same _; installed = λ k. same _ }
refuses_adds h (settle r) e = record { posted = same _; numbered = same _; heard = λ k. same _; enters = λ k. none _ (eqb k r); installed = λ k. same _ }
refuses_adds h (pick r) e = record { posted = same _; numbered = same _; heard = λ k. same _; enters = λ k. same _; installed = λ k. same _ }
refuses_adds h (run r b) e = record { posted = same _; numbered = same _; heard = λ k. same _; enters = λ k. same _; installed = λ k. same _ }
refuses_adds h (release r b) e = record { posted = same _; numbered = same _; heard = λ k. same _; enters = λ k. same _; installed = λ k. none _ (eqb k r) }
refuses_adds h (install r m) e = record { posted = same _; numbered = same _; heard = λ k. same _; enters = λ k. same _; installed = λ k. none _ (eqb k r) }
refuses_adds h (wish b) e = record { posted = same _; numbered = same _; heard = λ k. same _; enters = λ k. same _; installed = λ k. same _ }
refuses_adds h (amount r x) e = record { posted = same _; numbered = same _; heard = λ k. same _; enters = λ k. same _; installed = λ k. same _ }

-- no room has taken more entries than there are
pub taken_low : (g : Given) (w : Scene) (s : Picture) (h : House) → Fits g w s h → (k : ℕ) → h.wire.taken k ≤ length h.wire.definitive
taken_low g w s h o k =
    let f = ap (length {A = ℕ}) (sym o.wire.definitive_is ∙ (o.inv.front k).1) in
    let l = length-append (s.taken k) (o.inv.front k).0 in
    let t = o.wire.taken_is k in omega (arith, f, l, t)

settle-installed : (c : Bool) (r v : Room) → v.installed ≡ r.installed → (cond c v r).installed ≡ r.installed
settle-installed true r v e = e
settle-installed false r v e = refl

adds : (g : Given) {h h' : House} {c : Call} {a : Answer} → Answers g h c a h' → (w : Scene) (s : Picture) → Fits g w s h → Adds h c a h'
adds g (refuses {h = h} {c = c} {e = e} _) w s o = refuses_adds h c e
adds g (posts {h = h} _ _) w s o = record { posted = refl; numbered = same _; heard = λ k. same _; enters = λ k. same _; installed = λ k. same _ }
adds g (numbers {h = h} {b = b} _ _) w s o = record {
  posted = same _;
  numbered = refl;
  heard = λ k. same _;
  enters = λ k. take-append-le (h.wire.taken k) h.wire.definitive (b ∷ []) (taken_low g w s h o k) ∙ same _;
  installed = λ k. same _;
}
adds g (hears {h = h} {k = r} {b = b} _ _) w s o = record {
  posted = same _;
  numbered = same _;
  heard = more_there (λ (l : List ℕ). l) h.wire.tentative r (h.wire.tentative r ++ b ∷ []) (b ∷ []) refl;
  enters = λ k. same _;
  installed = stays-there (λ (x : Room). x.installed) h.room r (room_hear (h.room r) b) refl;
}
adds g (settles {h = h} {k = r} c) w s o = record {
  posted = same _;
  numbered = same _;
  heard = λ k. same _;
  enters = more_there (λ n. take n h.wire.definitive) h.wire.taken r (h.wire.taken r + 1) (next_entry h.wire r ∷ []) (take_more h.wire.definitive (h.wire.taken r) 0 (ready g w s h o r c).0);
  installed = stays-there (λ (x : Room). x.installed) h.room r (room_settle (works g h) r (h.room r) (next_entry h.wire r))
      (settle-installed (member (next_entry h.wire r) (h.room r).waiting) (h.room r) (room_settled (works g h) r (h.room r) (next_entry h.wire r)) refl);
}
adds g (runs {h = h} {k = r} {b = b} _) w s o = record {
  posted = same _;
  numbered = same _;
  heard = λ k. same _;
  enters = λ k. same _;
  installed = stays-there (λ (x : Room). x.installed) h.room r (room_run (works g h) (h.room r) (h.book r) b) refl;
}
adds g (releases {h = h} {k = r} {b = b} _ _) w s o = record {
  posted = same _;
  numbered = same _;
  heard = λ k. same _;
  enters = λ k. same _;
  installed = more_there (λ (x : Room). x.installed) h.room r (room_release (h.room r) b) (b ∷ []) refl;
}
adds g (installs {h = h} {k = r} {m = m} _ _) w s o = record {
  posted = same _;
  numbered = same _;
  heard = λ k. same _;
  enters = λ k. same _;
  installed = more_there (λ (x : Room). x.installed) h.room r (room_install (h.room r) (arriving h r m)) (arriving h r m ∷ []) refl;
}
adds g (wishes {h = h}) w s o = record { posted = same _; numbered = same _; heard = λ k. same _; enters = λ k. same _; installed = λ k. same _ }
adds g (tells {h = h} _) w s o = record { posted = same _; numbered = same _; heard = λ k. same _; enters = λ k. same _; installed = λ k. same _ }
adds g (picks {h = h} _ _) w s o = record { posted = same _; numbered = same _; heard = λ k. same _; enters = λ k. same _; installed = λ k. same _ }

-- what a list of calls adds, with one more call
gathered-push : {A : Type 0} (f : Call → Answer → List A) (l : List (Call × Answer)) (c : Call) (a : Answer) (xs ys : List A) → ys ≡ xs ++ f c a → xs ≡ gathered f l → ys ≡ gathered f (l ++ (c, a) ∷ [])
gathered-push f l c a xs ys e x = e ∙ ap (λ z. z ++ f c a) x ∙ flat_map_more (λ (d : Call × Answer). f d.0 d.1) [] l (c, a)

pub record ListsTold (l : List (Call × Answer)) (h : House) : Type 0 where
  pub posted : h.wire.posts ≡ gathered posted_by l
  pub numbered : h.wire.definitive ≡ gathered numbered_by l
  pub heard : (k : ℕ) → h.wire.tentative k ≡ gathered (heard_by k) l
  pub entered : (k : ℕ) → take (h.wire.taken k) h.wire.definitive ≡ gathered (entered_by k) l
  pub installed : (k : ℕ) → (h.room k).installed ≡ gathered (installed_by k) l

pub lists_told : (g : Given) {l : List (Call × Answer)} {h : House} → Performed g l h → ListsTold l h
lists_told g (opens _) = record { posted = refl; numbered = refl; heard = λ _. refl; entered = λ _. refl; installed = λ _. refl }
lists_told g (also {l = l} {h = h} {c = c} {a = a} p d) =
    let t = lists_told g p in
    let z = picture_of g p in
    let y = adds g d (scene_of g h (posts-right g p)) z.0 z.1 in record {
      posted = gathered-push posted_by l c a h.wire.posts _ y.posted t.posted;
      numbered = gathered-push numbered_by l c a h.wire.definitive _ y.numbered t.numbered;
      heard = λ k. gathered-push (heard_by k) l c a (h.wire.tentative k) _ (y.heard k) (t.heard k);
      entered = λ k. gathered-push (entered_by k) l c a (take (h.wire.taken k) h.wire.definitive) _ (y.enters k) (t.entered k);
      installed = λ k. gathered-push (installed_by k) l c a (h.room k).installed _ (y.installed k) (t.installed k);
    }
