-- What settling an entry q does to a room's lists, in closed form: nothing where q no longer waits; else those who go
-- ahead of q in the waiting list move, then q.
use Rattle.std.proofs.Common.{◌≡◌, ℕ, Bool, true, false, cond, not, ◌&&◌, ◌||◌, eqb, ◌⊎◌, List, [], ◌∷◌, ◌++◌, sym, ap, ◌∙◌, inl, inr, append-nil, arith}
use Rattle.std.proofs.lemmas.Bool.{cases_Bool, eqb-true, eqb-false, eq-eqb, ne_eqb, and_parts, and_from, both_ways}
use Rattle.lists.specs.Words.{member, any, keep, before}
use Rattle.lists.proofs.Members.{member-push, any_append, any_same}
use Rattle.lists.proofs.Keeps.{keep_append, keep-keep, keep_same, member-keep, place-keep}
use Rattle.lists.proofs.Updates.{updated-here}
use Rattle.order.specs.Works.{Works, lies_within}
use Rattle.order.specs.Order.{goes_ahead, group, house_order}
use Rattle.order.proofs.Walks.{with_master, any_with, order-push}
use Rattle.agreement.specs.Promises.{own_heard}
use Rattle.agreement.proofs.Pictures.{Scene, Picture, Invariant, sits, own_order, settled_of, waiting_of, picture_settle, MaySettle}
use Rattle.agreement.proofs.Puts.{clash}
use Rattle.agreement.proofs.Standing.{sits_own}
use Rattle.agreement.proofs.Lines.{own_with, member_own, member-waiting}

-- who goes ahead of q in room k: those before it in the waiting list, of the same master, this room, within it
abbrev pub ahead_of : Scene → ℕ → List ℕ → ℕ → List ℕ
ahead_of w k W q = cond (eqb (w.works.master q) k) (keep (λ a. (eqb (w.works.master a) k && lies_within w.works a q) && before W a q) W) []

-- tests
waits-not : (i s m : Bool) → ((not i && not s) && m) ≡ false → m ≡ true → s ≡ false → i ≡ true
waits-not i s m h k f = grind arith

waits_yes : (i s m : Bool) → ((not i && not s) && m) ≡ true → (s ≡ false) × (i ≡ false) × (m ≡ true)
waits_yes i s m h = (grind arith, grind arith, grind arith)

absorb : (x y : Bool) → (y ≡ true → x ≡ true) → (x || (y || false)) ≡ x
absorb x y h = grind arith

ahead-test : (n mq wi bt bw st : Bool) → ((n && not st) ≡ true → bw ≡ bt) → (n && (((mq && wi) && bt) && not st)) ≡ (((mq && wi) && bw) && (n && not st))
ahead-test n mq wi bt bw st h = grind arith

member-test : (ma wi bw bt mw e : Bool) → bw ≡ bt → mw ≡ true → ((((ma && wi) && bw) && mw) || e) ≡ cond ma (e || ((ma && wi) && bt)) e
member-test ma wi bw bt mw e h k = grind arith

self_test : (ma mq wi bt e : Bool) → (ma ≡ true → mq ≡ false) → e ≡ cond ma (e || ((mq && wi) && bt)) e
self_test ma mq wi bt e h = grind arith

left-test : (n st y r : Bool) → ((n && not st) ≡ true → r ≡ y) → (n && not (st || (y || false))) ≡ (not r && (n && not st))
left-test n st y r h = grind arith

pub taken_here : (w : Scene) (s : Picture) (k q : ℕ) → (picture_settle w s k q).taken k ≡ s.taken k ++ q ∷ []
taken_here w s k q = updated-here s.taken k (s.taken k ++ q ∷ [])

module _ (w : Scene) (s : Picture) (i : Invariant w s) (k q : ℕ) (g : MaySettle s k q) where
  abbrev ws : Works
  ws = w.works

  abbrev T : ℕ → List ℕ
  T = s.heard

  abbrev U : ℕ → List ℕ
  U = own_heard s.heard k

  abbrev s' : Picture
  s' = picture_settle w s k q

  abbrev taken : List ℕ
  taken = s.taken k

  abbrev O : List ℕ
  O = own_order w s k

  abbrev W : List ℕ
  W = waiting_of w s k

  abbrev out : ℕ → Bool
  out a = not (s.installed k a)

  settled-new : settled_of w s' k ≡ keep out (cond (member q O) O (O ++ group ws U O q))
  settled-new = ap (λ l. keep out (house_order ws U l)) (taken_here w s k q) ∙ ap (keep out) (order-push ws U taken q)

  any-new : (a : ℕ) → any (sits w s k a) (s'.taken k) ≡ (any (sits w s k a) taken || (sits w s k a q || false))
  any-new a = ap (any (sits w s k a)) (taken_here w s k q) ∙ any_append (sits w s k a) taken (q ∷ [])

  -- q no longer waits: nothing moves
  module _ (gone : member q W ≡ false) where
    own_settled : s.installed k q ≡ true → ws.master q ≡ k → any (sits w s k q) taken ≡ true
    own_settled t e = let z = i.settled_first q (i.installed_released k q t) in any_same _ _ taken (λ v _. sits_own w s k q v e) ∙ rw e at z

    -- q is settled, or it is another room's and installed
    why : (any (sits w s k q) taken ≡ true) ⊎ ((any (sits w s k q) taken ≡ false) × (s.installed k q ≡ true) × (ws.master q ≡ k → ⊥))
    why = elim (cases_Bool (any (sits w s k q) taken)) [ inl t ↦ inl t | inr f ↦ inr (f, installed-q f, λ e. both_ways (any (sits w s k q) taken) f (own_settled (installed-q f) e)) ]
      where
        installed-q : any (sits w s k q) taken ≡ false → s.installed k q ≡ true
        installed-q f = waits-not (s.installed k q) (any (sits w s k q) taken) (member q (T k)) (sym (member-waiting w s k q) ∙ gone) g.heard f

    empty_group : (ws.master q ≡ k → ⊥) → s.installed k q ≡ true → keep out (group ws U O q) ≡ []
    empty_group ne t = ap (λ l. keep out (keep (λ a. goes_ahead ws U a q && not (member a O)) l ++ q ∷ [])) none ∙ rw t
      where
        none : U (ws.master q) ≡ []
        none = let f : eqb (ws.master q) k ≡ false = ne_eqb _ _ ne in rw f

    pub settled_same : settled_of w s' k ≡ settled_of w s k
    settled_same = settled-new ∙ elim why [
      | inl t ↦ rw (member_own w s k q ∙ t)
      | inr z ↦ rw (member_own w s k q ∙ z.0) (keep_append out O (group ws U O q) ∙ ap (λ l. keep out O ++ l) (empty_group z.2 z.1) ∙ append-nil (keep out O))
    ]

    -- what sits with q and is not installed is settled already
    pub already : (a : ℕ) → s.installed k a ≡ false → sits w s k a q ≡ true → any (sits w s k a) taken ≡ true
    already a f h = elim why [
      | inl t ↦ any_same _ _ taken (λ z _. sym (own_with w s k a z)) ∙ any_with ws U a q taken (own_with w s k a q ∙ h) (any_same _ _ taken (λ z _. own_with w s k q z) ∙ t)
      | inr z ↦ elim (cases_Bool (eqb (ws.master a) k)) [
        | inl t ↦ absurd (z.2 (with_master ws T a q (rw t at h) ∙ eqb-true _ _ t))
        | inr e ↦ clash (s.installed k a) (rw (eqb-true a q (rw e at h)) z.1) f
      ]
    ]

    pub waiting-same : waiting_of w s' k ≡ waiting_of w s k
    waiting-same = keep_same _ _ (T k) (λ a h. rw (any-new a) (elim (cases_Bool (s.installed k a)) [ inl t ↦ rw t | inr f ↦ ap (λ b. not (s.installed k a) && not b) (absorb _ _ (already a f)) ]))

  -- q waits: those who go ahead move, then q
  module _ (waits : member q W ≡ true) where
    free : (any (sits w s k q) taken ≡ false) × (s.installed k q ≡ false) × (member q (T k) ≡ true)
    free = waits_yes (s.installed k q) (any (sits w s k q) taken) (member q (T k)) (sym (member-waiting w s k q) ∙ waits)

    abbrev V : ℕ → Bool
    V a = not (s.installed k a) && not (any (sits w s k a) taken)

    abbrev R : ℕ → Bool
    R a = (eqb (ws.master a) k && lies_within ws a q) && before W a q

    before-W : (a : ℕ) → member a (T k) ≡ true → V a ≡ true → before W a q ≡ before (T k) a q
    before-W a h v = both _ _ _ _ (place-keep V a q (T k) v (and_parts (V q) (member q (T k)) (sym (member-waiting w s k q) ∙ waits)).0 h free.2) waits free.2
      where
        both : (x y m n : Bool) → x ≡ y → m ≡ true → n ≡ true → (x && m) ≡ (y && n)
        both x y m n e f g = grind arith

    heard_here : ws.master q ≡ k → U (ws.master q) ≡ T k
    heard_here e = let t : eqb (ws.master q) k ≡ true = eq-eqb _ _ e in rw t (ap T e)

    here-ahead : eqb (ws.master q) k ≡ true → ws.master q ≡ k → keep out (keep (λ a. goes_ahead ws U a q && not (member a O)) (U (ws.master q))) ≡ ahead_of w k W q
    here-ahead t e =
        ap (λ l. keep out (keep (λ a. goes_ahead ws U a q && not (member a O)) l)) (heard_here e) ∙
        keep-keep out (λ a. goes_ahead ws U a q && not (member a O)) (T k) ∙
        keep_same _ (λ a. R a && V a) (T k) (λ a h. rw (heard_here e, member_own w s k a, e)
        (ahead-test (out a) (eqb (ws.master a) k) (lies_within ws a q) (before (T k) a q) (before W a q) (any (sits w s k a) taken) (before-W a h))) ∙
        sym (keep-keep R V (T k)) ∙ rw t

    go_ahead : keep out (keep (λ a. goes_ahead ws U a q && not (member a O)) (U (ws.master q))) ≡ ahead_of w k W q
    go_ahead = elim (cases_Bool (eqb (ws.master q) k)) [ inr f ↦ rw f | inl t ↦ here-ahead t (eqb-true _ _ t) ]

    pub settled_moves : settled_of w s' k ≡ settled_of w s k ++ (ahead_of w k W q ++ q ∷ [])
    settled_moves = settled-new ∙ rw (member_own w s k q ∙ free.0) (keep_append out O (group ws U O q) ∙ ap (λ l. keep out O ++ l)
        (keep_append out (keep (λ a. goes_ahead ws U a q && not (member a O)) (U (ws.master q))) (q ∷ []) ∙ ap (λ l. l ++ keep out (q ∷ [])) go_ahead ∙ rw free.1))

    -- who moves: of those that wait, the ones that sit with q
    pub moves_sits : (a : ℕ) → member a (T k) ≡ true → V a ≡ true → member a (ahead_of w k W q ++ q ∷ []) ≡ sits w s k a q
    moves_sits a h v = member-push a (ahead_of w k W q) q ∙ elim (cases_Bool (eqb (ws.master q) k)) [
      | inl t ↦ let e : ws.master q ≡ k = eqb-true _ _ t in
          ap (λ b. b || eqb a q) (ap (member a) (riders_here t) ∙ member-keep R a W) ∙
          member-test (eqb (ws.master a) k) (lies_within ws a q) (before W a q) (before (T k) a q) (member a W) (eqb a q) (before-W a h v) (member-waiting w s k a ∙ and_from _ _ v h) ∙ rw e
      | inr f ↦ ap (λ b. b || eqb a q) (ap (member a) (riders_away f)) ∙
          self_test (eqb (ws.master a) k) (eqb (ws.master a) (ws.master q)) (lies_within ws a q) (before (T (ws.master q)) a q) (eqb a q) (λ t. ne_eqb _ _ (λ e. eqb-false _ _ f (sym e ∙ eqb-true _ _ t)))
    ]
      where
        riders_here : eqb (ws.master q) k ≡ true → ahead_of w k W q ≡ keep R W
        riders_here t = rw t

        riders_away : eqb (ws.master q) k ≡ false → ahead_of w k W q ≡ []
        riders_away f = rw f

    pub waiting_moves : waiting_of w s' k ≡ keep (λ a. not (member a (ahead_of w k W q ++ q ∷ []))) W
    waiting_moves = keep_same _ _ (T k) (λ a h. ap (λ b. not (s.installed k a) && not b) (any-new a) ∙
        left-test (not (s.installed k a)) (any (sits w s k a) taken) (sits w s k a q) (member a (ahead_of w k W q ++ q ∷ [])) (moves_sits a h)) ∙
        sym (keep-keep (λ a. not (member a (ahead_of w k W q ++ q ∷ []))) V (T k))
