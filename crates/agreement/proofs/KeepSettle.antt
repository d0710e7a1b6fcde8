-- Settling keeps the invariant. Only marks are at stake: who goes ahead keeps its place before all that share a base with
-- it, and who stays waiting keeps its mark only where nothing that shares a base with it is settled now.
use Rattle.std.proofs.Common.{◌≡◌, ℕ, suc, ◌<◌, Bool, true, false, not, ◌&&◌, ◌||◌, eqb, ltb, ◌⊎◌, List, [], ◌∷◌, ◌++◌, length, sym, refl, ap, ◌∙◌, inl, inr, append_assoc, arith}
use Rattle.std.proofs.lemmas.Bool.{cases_Bool, cases_eq, eqb-true, and_parts, or_left, or_from}
use Rattle.lists.specs.Words.{member, any, first, updated}
use Rattle.lists.proofs.Keys.{not_less}
use Rattle.lists.proofs.Members.{push_cases, any_append, any_same}
use Rattle.lists.proofs.Places.{first_any, first-push, any-short}
use Rattle.lists.proofs.Updates.{updated-here, updated-there, updated_each}
use Rattle.order.specs.Works.{Works, share}
use Rattle.order.specs.Laws.{goes_with}
use Rattle.order.proofs.Walks.{with_shares}
use Rattle.order.proofs.Serials.{share_sym}
use Rattle.agreement.proofs.Pictures.{Scene, Picture, Invariant, First, sits, seat, waiting_of, mark_stays, picture_settle, MaySettle}
use Rattle.agreement.proofs.Puts.{clash}
use Rattle.agreement.proofs.Standing.{sits_own}
use Rattle.agreement.proofs.Settling.{taken_here, already}

-- how a seat moves with one more entry: t before, u after, L entries so far, f says that the new one settles it
abbrev Moves : ℕ → ℕ → ℕ → Bool → Type 0
Moves L t u f = ((t < L) × (u ≡ t)) ⊎ (((t ≡ L) × (f ≡ true) × (u ≡ L)) ⊎ ((t ≡ L) × (f ≡ false) × (u ≡ suc L)))

moves_lex : (L tc tb uc ub x y : ℕ) (fc fb : Bool) → Moves L tc uc fc → Moves L tb ub fb → (tb ≡ L → fb ≡ false → tc ≡ L → fc ≡ false) →
    (ltb tc tb || (eqb tc tb && ltb x y)) ≡ false → (ltb uc ub || (eqb uc ub && ltb x y)) ≡ false
moves_lex L tc tb uc ub x y fc fb mc mb k h = grind arith

unshared : (m a sh wq : Bool) → (m && ((a || not sh) || not wq)) ≡ true → a ≡ false → (sh ≡ false) ⊎ (wq ≡ false)
unshared m a sh wq h f = grind arith

module _ (w : Scene) (s : Picture) (i : Invariant w s) (k q : ℕ) (g : MaySettle s k q) where
  abbrev ws : Works
  ws = w.works

  abbrev taken' : ℕ → List ℕ
  taken' = updated s.taken k (s.taken k ++ q ∷ [])

  abbrev s' : Picture
  s' = picture_settle w s k q

  -- of every room's taken entries
  taken_each : (Q : ℕ → List ℕ → Type 0) → Q k (s.taken k ++ q ∷ []) → ((n : ℕ) → Q n (s.taken n)) → (n : ℕ) → Q n (taken' n)
  taken_each Q new old = updated_each s.taken k (s.taken k ++ q ∷ []) Q new (λ n _. old n)

  front' : (n : ℕ) → (rest : List ℕ) × (s.definitive ≡ taken' n ++ rest)
  front' = taken_each (λ _ l. (rest : List ℕ) × (s.definitive ≡ l ++ rest)) (g.rest, g.next ∙ sym (append_assoc (s.taken k) (q ∷ []) g.rest)) i.front

  taken-heard' : (n a : ℕ) → member a (taken' n) ≡ true → member a (s.heard n) ≡ true
  taken-heard' = taken_each (λ n l. (a : ℕ) → member a l ≡ true → member a (s.heard n) ≡ true)
      (λ a h. elim (push_cases a (s.taken k) q h) [ inl e ↦ rw e g.heard | inr t ↦ i.taken_heard k a t ]) i.taken_heard

  any_more : (f : ℕ → Bool) (n : ℕ) → any f (s.taken n) ≡ true → any f (taken' n) ≡ true
  any_more f = taken_each (λ n l. any f (s.taken n) ≡ true → any f l ≡ true) (λ h. any_append f (s.taken k) (q ∷ []) ∙ or_left _ _ h) (λ n h. h)

  pub mark-here : (b : ℕ) → s'.marked k b ≡ mark_stays w s k q b
  mark-here b = ap (λ (f : ℕ → Bool). f b) (updated-here s.marked k (mark_stays w s k q))

  marked-before : (n b : ℕ) → s'.marked n b ≡ true → s.marked n b ≡ true
  marked-before = updated_each s.marked k (mark_stays w s k q) (λ n f. (b : ℕ) → f b ≡ true → s.marked n b ≡ true)
      (λ b h. (and_parts (s.marked k b) ((any (goes_with ws s.heard b) (s.taken k ++ q ∷ []) || not (share ws b q)) || not (member q (waiting_of w s k))) h).0) (λ n _ b h. h)

  seat-here : (a : ℕ) → seat w s' k a ≡ first (sits w s k a) (s.taken k ++ q ∷ [])
  seat-here a = ap (first (sits w s k a)) (taken_here w s k q)

  seat-there : (n a : ℕ) → (n ≡ k → ⊥) → seat w s' n a ≡ seat w s n a
  seat-there n a ne = ap (first (sits w s n a)) (updated-there s.taken k (s.taken k ++ q ∷ []) n ne)

  sits-shares : (c b : ℕ) → sits w s k c q ≡ true → share ws c b ≡ true → share ws b q ≡ true
  sits-shares c b h sh = share_sym ws q b (elim (cases_Bool (eqb (ws.master c) k)) [
    | inl t ↦ with_shares ws s.heard c q b (rw t at h) sh
    | inr f ↦ rw (eqb-true c q (rw f at h)) at sh
  ])

  none : (b : ℕ) → ws.master b ≡ k → seat w s k b ≡ length (s.taken k) → sits w s k b q ≡ false → any (goes_with ws s.heard b) (s.taken k ++ q ∷ []) ≡ false
  none b e t f = rw (any_append (goes_with ws s.heard b) (s.taken k) (q ∷ [])) (or_from _ _
      (any_same _ _ (s.taken k) (λ z _. sym (sits_own w s k b z e)) ∙ first_any (sits w s k b) (s.taken k) ∙ rw t (not_less (length (s.taken k))))
      (or_from _ _ (sym (sits_own w s k b q e) ∙ f) refl))

  -- b keeps its mark while it waits: then nothing that shares a base with it is settled now
  quiet : (b c : ℕ) → s'.marked k b ≡ true → s.installed k c ≡ false → share ws c b ≡ true → seat w s k b ≡ length (s.taken k) → sits w s k b q ≡ false →
      seat w s k c ≡ length (s.taken k) → sits w s k c q ≡ false
  quiet b c m nc sh t f tc = elim (cases_Bool (sits w s k c q)) [
    | inr n ↦ n
    | inl y ↦
        elim (unshared (s.marked k b) (any (goes_with ws s.heard b) (s.taken k ++ q ∷ [])) (share ws b q) (member q (waiting_of w s k)) (sym (mark-here b) ∙ m) (none b (i.marks k b (marked-before k b m)).0 t f)) [
          | inl n ↦ clash (share ws b q) (sits-shares c b y sh) n
          | inr gone ↦ let l = any-short (sits w s k c) (s.taken k) (already w s i k q g gone c nc y) in absurd (omega (arith, l, tc))
        ]
  ]

  first-here : (b : ℕ) → s'.marked k b ≡ true → First w s' k b
  first-here b m c hc nc sh = rw (seat-here c, seat-here b)
      (moves_lex (length (s.taken k)) (seat w s k c) (seat w s k b) _ _ _ _ (sits w s k c q) (sits w s k b q) (first-push (sits w s k c) (s.taken k) q) (first-push (sits w s k b) (s.taken k) q)
      (quiet b c m nc sh) (i.marks_first k b (marked-before k b m) c hc nc sh))

  first' : (n b : ℕ) → s'.marked n b ≡ true → First w s' n b
  first' n b m c hc nc sh = elim (cases_eq n k) [
    | inl e ↦ rw e (first-here b (rw e at m) c (rw e at hc) (rw e at nc) sh)
    | inr ne ↦ rw (seat-there n c ne, seat-there n b ne) (i.marks_first n b (marked-before n b m) c hc nc sh)
  ]

  pub settle-keeps : Invariant w (picture_settle w s k q)
  settle-keeps = record {
    heard_once = i.heard_once;
    numbered_once = i.numbered_once;
    front = front';
    taken_heard = taken-heard';
    installed_released = i.installed_released;
    installed_heard = i.installed_heard;
    home_first = i.home_first;
    settled_first = λ b h. any_more _ _ (i.settled_first b h);
    in_turn = i.in_turn;
    closed = i.closed;
    release_order = i.release_order;
    books = i.books;
    announcements = i.announcements;
    marks = λ n b m. i.marks n b (marked-before n b m);
    marks_first = first';
    marks_right = λ n b x m. i.marks_right n b x (marked-before n b m);
  }
