-- Every house that a list of calls leads to fits a picture: by induction over the calls, for any right batches that
-- begin with those posted so far, so that a post changes no picture.
use Rattle.std.proofs.Common.{◌≡◌, ℕ, ◌<◌, true, false, List, [], ◌∷◌, ◌++◌, length, get_or, sym, refl, ap, ◌∙◌, append_assoc, append-nil, arith}
use Rattle.std.proofs.lemmas.List.{get_or_append_left}
use Rattle.lists.specs.Words.{all}
use Rattle.lists.proofs.Members.{all_push, all_get_d}
use Rattle.sets.specs.Sets.{bases}
use Rattle.batches.specs.Batches.{batch_right}
use Rattle.wire.specs.Wire.{Posted}
use Rattle.wire.specs.Calls.{next_entry}
use Rattle.order.specs.Works.{no_post, works_of, master_of}
use Rattle.agreement.specs.Houses.{Given, House, opened}
use Rattle.agreement.specs.Calls.{Call, Answer, Answers, refuses, posts, numbers, hears, settles, runs, releases, installs, wishes, tells, picks, arriving, Performed, opens, also}
use Rattle.agreement.proofs.Pictures.{Scene, Picture, Invariant, new_picture, picture_number, picture_hear, picture_settle, picture_run, picture_release, picture_install}
use Rattle.agreement.proofs.Puts.{clash}
use Rattle.agreement.proofs.Fits.{Fits}
use Rattle.agreement.proofs.FitWire.{fits-post, fits-number, fits-hear}
use Rattle.agreement.proofs.FitSettle.{fits-settle}
use Rattle.agreement.proofs.FitRun.{fits-run}
use Rattle.agreement.proofs.FitRelease.{fits-release}
use Rattle.agreement.proofs.FitInstall.{fits-install}

-- the posted batches are right
abbrev pub AllRight : List Posted → Type 0
AllRight P = all (λ (p : Posted). batch_right p.batch) P ≡ true

pub no_post-right : batch_right no_post.batch ≡ true
unfolding bases
no_post-right = refl

abbrev pub scene : (g : Given) (P : List Posted) → AllRight P → Scene
scene g P hP = record { works = works_of g.plan P; right = all_get_d (λ (p : Posted). batch_right p.batch) P no_post hP no_post-right; opening = g.opening }

pub posts-right : (g : Given) {l : List (Call × Answer)} {h : House} → Performed g l h → AllRight h.wire.posts
posts-right g (opens _) = refl
posts-right g (also p d) = go d (posts-right g p)
  where
    go : {h h' : House} {c : Call} {a : Answer} → Answers g h c a h' → AllRight h.wire.posts → AllRight h'.wire.posts
    go (refuses _) r = r
    go (posts {h = h} {room = room} {b = b} _ right) r = all_push (λ (p : Posted). batch_right p.batch) h.wire.posts (record { room = room; batch = b }) r right
    go (numbers _ _) r = r
    go (hears _ _) r = r
    go (settles _) r = r
    go (runs _) r = r
    go (releases _ _) r = r
    go (installs _ _) r = r
    go wishes r = r
    go (tells _) r = r
    go (picks _ _) r = r

-- what was posted stays
grows : (g : Given) {h h' : House} {c : Call} {a : Answer} → Answers g h c a h' → (P more : List Posted) → P ≡ h'.wire.posts ++ more → (rest : List Posted) × (P ≡ h.wire.posts ++ rest)
grows g (refuses _) P more e = (more, e)
grows g (posts {h = h} {room = room} {b = b} _ _) P more e = (record { room = room; batch = b } ∷ more, e ∙ append_assoc h.wire.posts (record { room = room; batch = b } ∷ []) more)
grows g (numbers _ _) P more e = (more, e)
grows g (hears _ _) P more e = (more, e)
grows g (settles _) P more e = (more, e)
grows g (runs _) P more e = (more, e)
grows g (releases _ _) P more e = (more, e)
grows g (installs _ _) P more e = (more, e)
grows g wishes P more e = (more, e)
grows g (tells _) P more e = (more, e)
grows g (picks _ _) P more e = (more, e)

-- the batches posted so far are known as they are
same-batches : (g : Given) (P Q more : List Posted) → P ≡ Q ++ more → (b : ℕ) → b < length Q → ((works_of g.plan Q).batch b ≡ (works_of g.plan P).batch b) × ((works_of g.plan Q).master b ≡ (works_of g.plan P).master b)
same-batches g P Q more e b l =
    let z : get_or Q b no_post ≡ get_or P b no_post = sym (ap (λ (l : List Posted). get_or l b no_post) e ∙ get_or_append_left Q more no_post b l) in
    (ap (λ (p : Posted). p.batch) z, ap (λ (p : Posted). master_of g.plan p.batch.set) z)

new_invariant : (w : Scene) → Invariant w (new_picture w)
new_invariant w = record {
  heard_once = λ _. tt;
  numbered_once = tt;
  front = λ _. ([], refl);
  taken_heard = λ _ _ h. h;
  installed_released = λ _ _ h. h;
  installed_heard = λ _ _ h. h;
  home_first = λ _ h. h;
  settled_first = λ _ h. h;
  in_turn = λ _ _ _ _ _ h. h;
  closed = λ _ _ _ _ _ h. h;
  release_order = λ _ _ _ bef _. bef;
  books = λ _ _. refl;
  announcements = λ _ _ h _. clash false h refl;
  marks = λ _ _ m. clash false m refl;
  marks_first = λ _ _ m. clash false m refl;
  marks_right = λ _ _ _ m _. clash false m refl;
}

fits-opened : (g : Given) (P : List Posted) (hP : AllRight P) → Fits g (scene g P hP) (new_picture (scene g P hP)) (opened g)
fits-opened g P hP = record {
  inv = new_invariant (scene g P hP);
  released_once = tt;
  books = λ _ _. refl;
  batches = λ _ l. absurd (omega arith);
  masters = λ _ l. absurd (omega arith);
  wire = record {
    definitive_is = refl;
    heard_is = λ _. refl;
    taken_is = λ _. refl;
    numbered_posted = λ _ m. clash false m refl;
    heard_posted = λ _ _ m. clash false m refl;
    announced_are = λ _. refl;
    serializers_are = λ _ _ l. absurd (omega arith);
    amounts_are = λ _ _ _ l _. absurd (omega arith);
    received_are = λ _ _ _ _ l. absurd (omega arith);
    received_low = λ _ _. omega arith;
  };
  rooms = λ _. record {
    waiting_is = refl;
    settled_is = refl;
    installed_is = λ _. refl;
    installed_once = tt;
    installed_order = λ _ _ m _ _. clash false m refl;
    marked_is = λ _. refl;
    result_is = λ _ _ m _. clash false m refl;
    serializer_is = λ _ m _. clash false m refl;
  };
}

step : (g : Given) {h h' : House} {c : Call} {a : Answer} → Answers g h c a h' → (P more : List Posted) (hP : AllRight P) → P ≡ h'.wire.posts ++ more →
    (s : Picture) → Fits g (scene g P hP) s h → (s' : Picture) × Fits g (scene g P hP) s' h'
step g (refuses _) P more hP e s o = (s, o)
step g (posts {h = h} {room = room} {b = b} _ _) P more hP e s o = (s, fits-post g (scene g P hP) s h o room b (same-batches g P (h.wire.posts ++ record { room = room; batch = b } ∷ []) more e))
step g (numbers {h = h} {b = b} _ c) P more hP e s o = (picture_number s b, fits-number g (scene g P hP) s h o b c)
step g (hears {h = h} {k = k} {b = b} _ c) P more hP e s o = (picture_hear s k b, fits-hear g (scene g P hP) s h o k b c)
step g (settles {h = h} {k = k} c) P more hP e s o = (picture_settle (scene g P hP) s k (next_entry h.wire k), fits-settle g (scene g P hP) s h o k c)
step g (runs {h = h} {k = k} {b = b} c) P more hP e s o = (picture_run (scene g P hP) s k b, fits-run g (scene g P hP) s h o k b c)
step g (releases {h = h} {k = k} {b = b} {left = left} c _) P more hP e s o = (picture_release (scene g P hP) s k b, fits-release g (scene g P hP) s h o k b c left)
step g (installs {h = h} {k = k} {m = m} {left = left} c _) P more hP e s o = (picture_install (scene g P hP) s k (arriving h k m), fits-install g (scene g P hP) s h o k m c left)
step g wishes P more hP e s o = (s, o)
step g (tells _) P more hP e s o = (s, o)
step g (picks _ _) P more hP e s o = (s, o)

pictured : (g : Given) {l : List (Call × Answer)} {h : House} → Performed g l h → (P more : List Posted) (hP : AllRight P) → P ≡ h.wire.posts ++ more → (s : Picture) × Fits g (scene g P hP) s h
pictured g (opens _) P more hP e = (new_picture (scene g P hP), fits-opened g P hP)
pictured g (also p d) P more hP e = let z = grows g d P more e in let y = pictured g p P z.0 hP z.1 in step g d P more hP e y.0 y.1

-- with just the batches that are posted
abbrev pub scene_of : (g : Given) (h : House) → AllRight h.wire.posts → Scene
scene_of g h hP = scene g h.wire.posts hP

pub picture_of : (g : Given) {l : List (Call × Answer)} {h : House} (p : Performed g l h) → (s : Picture) × Fits g (scene_of g h (posts-right g p)) s h
picture_of g {h} p = pictured g p h.wire.posts [] (posts-right g p) (sym (append-nil h.wire.posts))
