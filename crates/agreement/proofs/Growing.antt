-- One more batch is installed in a room, where all that comes before it in the house order and shares a base is
-- installed already. The choice stays closed, and since what comes after it there shares no base with it, the book with
-- its amounts laid on is the serial run with it inserted.
use Rattle.std.proofs.Common.{◌≡◌, ℕ, Bool, true, false, ◌||◌, eqb, List, sym, ap, ◌∙◌, inl, inr}
use mathlib.Core.Path.{fun_ext}
use Rattle.std.proofs.lemmas.Bool.{cases_Bool, cases_eq, both_ways}
use Rattle.lists.specs.Words.{member, keep, before, updated, Distinct}
use Rattle.lists.proofs.Keeps.{keep_same}
use Rattle.lists.proofs.Befores.{before_members, before_trans, before_or}
use Rattle.lists.proofs.Fronts.{front-some}
use Rattle.lists.proofs.Updates.{updated-here, updated-there}
use Rattle.stock.specs.Stock.{Amounts}
use Rattle.order.specs.Works.{Works, has_base, share}
use Rattle.order.specs.Order.{serial_run}
use Rattle.order.specs.Laws.{goes_with, Closed}
use Rattle.order.proofs.Walks.{member-order, order-once}
use Rattle.order.proofs.Serials.{share_base, share_sym, away, choices_agree_lem, one_more}
use Rattle.agreement.proofs.Pictures.{Scene, Picture, Invariant, order_of, after, put, laid_on}
use Rattle.agreement.proofs.Puts.{clash, put-old, put_cases, put-here, put-there}

-- bases that c lacks keep their amounts
pub book_away : (w : Scene) (s : Picture) (k c : ℕ) (amt : Amounts) (n y : ℕ) → (n ≡ k → has_base w.works c y ≡ false) → updated s.book k (laid_on w c amt (s.book k)) n y ≡ s.book n y
book_away w s k c amt n y h = elim (cases_eq n k) [
  | inl e ↦ rw e (ap (λ (m : Amounts). m y) (updated-here s.book k (laid_on w c amt (s.book k))) ∙ rw (h e))
  | inr ne ↦ ap (λ (m : Amounts). m y) (updated-there s.book k (laid_on w c amt (s.book k)) n ne)
]

module _ (w : Scene) (s : Picture) (i : Invariant w s) where
  abbrev ws : Works
  ws = w.works

  abbrev H : List ℕ
  H = order_of w s

  pub released-placed : (b : ℕ) → member b s.released ≡ true → member b H ≡ true
  released-placed b h =
      let k : ℕ = ws.master b in
      member-order ws s.heard s.definitive b ∙ front-some s.definitive (s.taken k) (i.front k).0 (i.front k).1 (goes_with ws s.heard b) (i.settled_first b h)

  pub installed-placed : (n a : ℕ) → s.installed n a ≡ true → member a H ≡ true
  installed-placed n a h = released-placed a (i.installed_released n a h)

  pub placed-once : Distinct H
  placed-once = order-once ws s.heard i.heard_once s.definitive

  pub released-closed : (c : ℕ) → Closed ws (λ a. before s.released a c) H
  released-closed c a b bef sh h = before_trans s.released a b c (i.release_order a b (before_members b c s.released h).0 bef sh) h

  module _ (k c : ℕ) (hc : member c H ≡ true) (new : s.installed k c ≡ false) (front : (a : ℕ) → before H a c ≡ true → share ws a c ≡ true → s.installed k a ≡ true) where
    pub grow_closed : (n : ℕ) → Closed ws (put s.installed k c true n) H
    grow_closed n a b bef sh j = elim (put_cases s.installed k c n b j) [
      | inl e ↦ put-old s.installed k c n a (rw e.0 (front a (rw e.1 at bef) (rw e.1 at sh)))
      | inr o ↦ put-old s.installed k c n a (i.closed n a b bef sh o)
    ]

    -- an installed sharer stands before c
    pub installed-before : (b : ℕ) → member b H ≡ true → share ws b c ≡ true → s.installed k b ≡ true → before H b c ≡ true
    installed-before b hb sh j = elim (cases_Bool (before H b c)) [
      | inl t ↦ t
      | inr g ↦
          clash (s.installed k c) (i.closed k c b (before_or H b c hb hc (λ e. both_ways (s.installed k c) new (rw e at j)) g) (share_sym ws b c sh) j) new
    ]

    -- the book agrees, on c's bases, with a closed choice that has, of what shares a base with c, just what is installed
    pub book_agrees : (J : ℕ → Bool) → Closed ws J H → ((b : ℕ) → member b H ≡ true → share ws b c ≡ true → s.installed k b ≡ J b) →
        (x : ℕ) → has_base ws c x ≡ true → s.book k x ≡ serial_run ws (keep J H) w.opening x
    book_agrees J cl same x hx = i.books k x ∙ choices_agree_lem ws w.right w.opening (s.installed k) J H placed-once (i.closed k) cl x (λ b hb hbx. same b hb (share_base ws b c x hbx hx))

    module _ (amt : Amounts) (right : (x : ℕ) → has_base ws c x ≡ true → amt x ≡ after w c (s.book k) x) where
      laid-run : (x : ℕ) → laid_on w c amt (s.book k) x ≡ after w c (s.book k) x
      laid-run x = elim (cases_Bool (has_base ws c x)) [ inl t ↦ rw t (right x t) | inr f ↦ rw f (sym (away ws w.right c (s.book k) x f)) ]

      late : (b : ℕ) → before H c b ≡ true → s.installed k b ≡ true → share ws c b ≡ false
      late b bef j = elim (cases_Bool (share ws c b)) [ inl t ↦ clash (s.installed k c) (i.closed k c b bef t j) new | inr f ↦ f ]

      pub grow_books : (n x : ℕ) → updated s.book k (laid_on w c amt (s.book k)) n x ≡ serial_run ws (keep (put s.installed k c true n) H) w.opening x
      grow_books n x = elim (cases_eq n k) [ inl e ↦ rw e (here x) | inr ne ↦ there n x ne ]
        where
          here : (x : ℕ) → updated s.book k (laid_on w c amt (s.book k)) k x ≡ serial_run ws (keep (put s.installed k c true k) H) w.opening x
          here x =
              ap (λ (m : Amounts). m x) (updated-here s.book k (laid_on w c amt (s.book k))) ∙ laid-run x ∙ ap (λ m. after w c m x) (fun_ext (i.books k)) ∙
              sym (ap (λ (m : Amounts). m x) (one_more ws w.right (s.installed k) c H placed-once hc new late w.opening)) ∙
              ap (λ l. serial_run ws l w.opening x) (sym (keep_same (put s.installed k c true k) (λ a. s.installed k a || eqb a c) H (λ a _. put-here s.installed k c a)))

          there : (n x : ℕ) → (n ≡ k → ⊥) → updated s.book k (laid_on w c amt (s.book k)) n x ≡ serial_run ws (keep (put s.installed k c true n) H) w.opening x
          there n x ne =
              ap (λ (m : Amounts). m x) (updated-there s.book k (laid_on w c amt (s.book k)) n ne) ∙ i.books n x ∙
              ap (λ l. serial_run ws l w.opening x) (sym (keep_same (put s.installed k c true n) (s.installed n) H (λ a _. put-there s.installed k c n a ne)))
