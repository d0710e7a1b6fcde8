-- A room's settled list holds exactly what its settles have sent ahead or answered and what is not installed: who moves
-- has waited, so it is not installed; and an entry that no longer waits is settled already or installed.
use Rattle.std.proofs.Common.{◌≡◌, ℕ, Bool, true, false, cond, not, ◌&&◌, ◌||◌, eqb, List, [], ◌∷◌, ◌++◌, None, sym, refl, ap, ◌∙◌, subst, inl, inr, append-nil, arith}
use Rattle.std.proofs.lemmas.Bool.{cases_Bool, eq-eqb, ne_eqb, and_parts}
use Rattle.lists.specs.Words.{member, any, before, without}
use Rattle.lists.proofs.Members.{member-append, member-push, push_cases}
use Rattle.lists.proofs.Keeps.{member-keep}
use Rattle.lists.proofs.Befores.{before_members}
use Rattle.lists.proofs.Updates.{updated_each}
use Rattle.wire.specs.Calls.{next_entry}
use Rattle.order.specs.Works.{lies_within}
use Rattle.agreement.specs.Rooms.{Room, heard_here, gone_ahead, room_hear, room_settled, room_settle, room_run, room_release, room_install}
use Rattle.agreement.specs.Houses.{Given, House, works}
use Rattle.agreement.specs.Calls.{Call, settle, Answer, cause, Answers, refuses, posts, numbers, hears, settles, runs, releases, installs, wishes, tells, picks, arriving, Performed, opens, also}
use Rattle.agreement.specs.Tellings.{settled_now, settled_ever}
use Rattle.agreement.proofs.Pictures.{Scene, Picture, sits}
use Rattle.agreement.proofs.Puts.{clash}
use Rattle.agreement.proofs.Fits.{Fits, waiting-sits, heard-listed, heard-settled}
use Rattle.agreement.proofs.FitSettle.{ready, moved_waited}
use Rattle.agreement.proofs.Pictured.{AllRight, scene_of, posts-right, picture_of}

-- tests
moved-test : (st e mv inst : Bool) → st ≡ (e && not inst) → (mv ≡ true → inst ≡ false) → (st || mv) ≡ ((e || mv) && not inst)
moved-test st e mv inst h k = grind arith

stayed_test : (st e mv inst : Bool) → st ≡ (e && not inst) → (mv ≡ true → inst ≡ false → st ≡ true) → st ≡ ((e || mv) && not inst)
stayed_test st e mv inst h k = grind arith

gone-test : (st e inst q : Bool) → st ≡ (e && not inst) → (not q && st) ≡ (e && not (inst || q))
gone-test st e inst q h = grind arith

waits-out : (i a m : Bool) → ((not i && not a) && m) ≡ true → i ≡ false
waits-out i a m h = grind arith

-- the claim of one room
abbrev Held : List ℕ → Room → Type 0
Held E r = (b : ℕ) → member b r.settled ≡ (member b E && not (member b r.installed))

more_none : (E : List ℕ) (r : Room) → Held E r → Held (E ++ []) r
more_none E r h = rw append-nil h

-- a room that loses b from its settled list to its installed list
gives_up : (E : List ℕ) (r x : Room) (b : ℕ) → x.settled ≡ without b r.settled → x.installed ≡ r.installed ++ b ∷ [] → Held E r → Held E x
gives_up E r x b es ei h a = ap (member a) es ∙ member-keep (λ c. not (eqb c b)) a r.settled ∙ gone-test (member a r.settled) (member a E) (member a r.installed) (eqb a b) (h a) ∙
    sym (ap (λ l. member a E && not (member a l)) ei ∙ ap (λ t. member a E && not t) (member-push a r.installed b))

module _ (g : Given) (h : House) (hP : AllRight h.wire.posts) (s : Picture) (o : Fits g (scene_of g h hP) s h) (k : ℕ) (c : cause g h (settle k) ≡ None) where
  abbrev w : Scene
  w = scene_of g h hP

  abbrev r : Room
  r = h.room k

  abbrev q : ℕ
  q = next_entry h.wire k

  abbrev gone : List ℕ
  gone = gone_ahead (works g h) k (h.room k) (next_entry h.wire k)

  -- what waits is not installed
  waiting-out : (b : ℕ) → member b r.waiting ≡ true → member b r.installed ≡ false
  waiting-out b m = sym ((o.rooms k).installed_is b) ∙ waits-out (s.installed k b) (any (sits w s k b) (s.taken k)) (member b (s.heard k)) (sym (waiting-sits w s o.inv k r (o.rooms k) b) ∙ m)

  -- where q does not wait nobody goes ahead of it
  nobody : member q r.waiting ≡ false → (b : ℕ) → member b (gone ++ q ∷ []) ≡ true → b ≡ q
  nobody f b m = elim (push_cases b gone q m) [
    | inl e ↦ e
    | inr t ↦ elim (cases_Bool (eqb ((works g h).master q) k)) [
      | inr n ↦ clash false (rw n at t) refl
      | inl y ↦
          let R : ℕ → Bool = λ a. (eqb ((works g h).master a) k && lies_within (works g h) a q) && before r.waiting a q in
          let z = and_parts (R b) (member b r.waiting) (sym (member-keep R b r.waiting) ∙ rw y at t) in
          clash (member q r.waiting) (before_members b q r.waiting (and_parts (eqb ((works g h).master b) k && lies_within (works g h) b q) (before r.waiting b q) z.0).1).1 f
    ]
  ]

  settle-held : (E : List ℕ) → Held E r → Held (E ++ (gone ++ q ∷ [])) (room_settle (works g h) k r q)
  settle-held E held = elim (cases_Bool (member q r.waiting)) [
    | inl t ↦ subst (Held (E ++ (gone ++ q ∷ []))) (sym (ap (λ c. cond c (room_settled (works g h) k r q) r) t)) (λ b. member-append b r.settled (gone ++ q ∷ []) ∙
        moved-test (member b r.settled) (member b E) (member b (gone ++ q ∷ [])) (member b r.installed) (held b) (λ m. waiting-out b (moved_waited g w s h o k c t b m)) ∙
        ap (λ x. x && not (member b r.installed)) (sym (member-append b E (gone ++ q ∷ []))))
    | inr f ↦ subst (Held (E ++ (gone ++ q ∷ []))) (sym (ap (λ c. cond c (room_settled (works g h) k r q) r) f)) (λ b.
        stayed_test (member b r.settled) (member b E) (member b (gone ++ q ∷ [])) (member b r.installed) (held b)
        (λ m n. heard-settled r b (subst (λ v. heard_here r v ≡ true) (sym (nobody f b m)) q-heard)
        (subst (λ v. member v r.waiting ≡ false) (sym (nobody f b m)) f) n) ∙
        ap (λ x. x && not (member b r.installed)) (sym (member-append b E (gone ++ q ∷ []))))
  ]
    where
      q-heard : heard_here r q ≡ true
      q-heard = heard-listed w s o.inv k r (o.rooms k) q ∙ ap (member q) (o.wire.heard_is k) ∙ (ready g w s h o k c).1

-- a step, in each room
step-held : (g : Given) {h h' : House} {c : Call} {a : Answer} (d : Answers g h c a h') (hP : AllRight h.wire.posts) (s : Picture) → Fits g (scene_of g h hP) s h →
    (E : ℕ → List ℕ) → ((k : ℕ) → Held (E k) (h.room k)) → (k : ℕ) → Held (E k ++ settled_now k d) (h'.room k)
step-held g (refuses {h = h} _) hP s o E held k = more_none (E k) (h.room k) (held k)
step-held g (posts {h = h} _ _) hP s o E held k = more_none (E k) (h.room k) (held k)
step-held g (numbers {h = h} _ _) hP s o E held k = more_none (E k) (h.room k) (held k)
step-held g (hears {h = h} {k = r} {b = b} _ _) hP s o E held k =
    updated_each h.room r (room_hear (h.room r) b) (λ n x. Held (E n ++ []) x) (more_none (E r) (h.room r) (held r)) (λ n _. more_none (E n) (h.room n) (held n)) k
step-held g (settles {h = h} {k = r} c) hP s o E held k =
    updated_each h.room r (room_settle (works g h) r (h.room r) (next_entry h.wire r))
    (λ n x. Held (E n ++ cond (eqb n r) (gone_ahead (works g h) r (h.room r) (next_entry h.wire r) ++ next_entry h.wire r ∷ []) []) x)
    (let t : eqb r r ≡ true = eq-eqb r r refl in rw t (settle-held g h hP s o r c (E r) (held r)))
    (λ n ne. let f : eqb n r ≡ false = ne_eqb n r ne in rw f (more_none (E n) (h.room n) (held n))) k
step-held g (runs {h = h} {k = r} {b = b} _) hP s o E held k =
    updated_each h.room r (room_run (works g h) (h.room r) (h.book r) b) (λ n x. Held (E n ++ []) x) (more_none (E r) (h.room r) (held r)) (λ n _. more_none (E n) (h.room n) (held n)) k
step-held g (releases {h = h} {k = r} {b = b} _ _) hP s o E held k =
    updated_each h.room r (room_release (h.room r) b) (λ n x. Held (E n ++ []) x) (more_none (E r) (room_release (h.room r) b) (gives_up (E r) (h.room r) (room_release (h.room r) b) b refl refl (held r)))
    (λ n _. more_none (E n) (h.room n) (held n)) k
step-held g (installs {h = h} {k = r} {m = m} _ _) hP s o E held k =
    updated_each h.room r (room_install (h.room r) (arriving h r m)) (λ n x. Held (E n ++ []) x)
    (more_none (E r) (room_install (h.room r) (arriving h r m)) (gives_up (E r) (h.room r) (room_install (h.room r) (arriving h r m)) (arriving h r m) refl refl (held r)))
    (λ n _. more_none (E n) (h.room n) (held n)) k
step-held g (wishes {h = h}) hP s o E held k = more_none (E k) (h.room k) (held k)
step-held g (tells {h = h} _) hP s o E held k = more_none (E k) (h.room k) (held k)
step-held g (picks {h = h} _ _) hP s o E held k = more_none (E k) (h.room k) (held k)

pub settled-told : (g : Given) {l : List (Call × Answer)} {h : House} (p : Performed g l h) (k : ℕ) → Held (settled_ever k p) (h.room k)
settled-told g (opens _) k = λ b. refl
settled-told g (also {h = h} p d) k = let z = picture_of g p in step-held g d (posts-right g p) z.0 z.1 (λ n. settled_ever n p) (λ n. settled-told g p n) k
