-- Releasing keeps the invariant. The batch is first in its lines, so all that comes before it in the house order and
-- shares a base is installed here; its mark is its run on the book, so book and announcement hold what the serial run
-- with it leaves; and other marked batches of the room share no base with it.
use Rattle.std.proofs.Common.{◌≡◌, ℕ, true, false, List, [], ◌∷◌, ◌++◌, sym, ap, ◌∙◌, inl, inr, arith}
use Rattle.std.proofs.lemmas.Bool.{cases_Bool, both_ways}
use Rattle.lists.specs.Words.{member, keep, before, updated}
use Rattle.lists.proofs.Members.{push_cases, member-old, member-new}
use Rattle.lists.proofs.Keeps.{keep_same}
use Rattle.lists.proofs.Befores.{before-append, before_last, before_members, before_or}
use Rattle.lists.proofs.Fronts.{front-some}
use Rattle.lists.proofs.Updates.{updated-here, updated-there}
use Rattle.stock.specs.Stock.{Amounts}
use Rattle.order.specs.Works.{Works, has_base, share}
use Rattle.order.specs.Order.{serial_run}
use Rattle.order.specs.Laws.{goes_with, Closed}
use Rattle.order.proofs.Walks.{member-order}
use Rattle.order.proofs.Serials.{share_base, share_sym, alike}
use Rattle.agreement.proofs.Pictures.{Scene, Picture, Invariant, order_of, after, put, picture_release, MayRelease}
use Rattle.agreement.proofs.Puts.{clash, put-old, put-new, put_cases, put_false, put_stay}
use Rattle.agreement.proofs.Standing.{sooner-same, front-release}
use Rattle.agreement.proofs.Growing.{book_away, grow_closed, book_agrees, grow_books}

module _ (w : Scene) (s : Picture) (i : Invariant w s) (k b : ℕ) (g : MayRelease w s k b) where
  abbrev ws : Works
  ws = w.works

  abbrev H : List ℕ
  H = order_of w s

  abbrev released' : List ℕ
  released' = s.released ++ b ∷ []

  home : ws.master b ≡ k
  home = (i.marks k b g.marked).0

  here : member b (s.heard k) ≡ true
  here = (i.marks k b g.marked).1

  new : s.installed k b ≡ false
  new = (i.marks k b g.marked).2

  placed : member b H ≡ true
  placed = member-order ws s.heard s.definitive b ∙ front-some s.definitive (s.taken k) (i.front k).0 (i.front k).1 (goes_with ws s.heard b) g.settled

  pub unreleased : member b s.released ≡ false
  unreleased = elim (cases_Bool (member b s.released)) [ inl t ↦ clash (s.installed k b) (rw home at (i.home_first b t)) new | inr f ↦ f ]

  pub release-front : (a : ℕ) → before H a b ≡ true → share ws a b ≡ true → s.installed k a ≡ true
  release-front = front-release w s i k b home g.settled (i.marks_first k b g.marked)

  right : (x : ℕ) → has_base ws b x ≡ true → s.result k b x ≡ after w b (s.book k) x
  right x h = i.marks_right k b x g.marked h

  -- another marked batch shares no base with b
  mark_apart : (d x : ℕ) → s.marked k d ≡ true → (d ≡ b → ⊥) → has_base ws d x ≡ true → has_base ws b x ≡ false
  mark_apart d x m ne hd = elim (cases_Bool (has_base ws b x)) [
    | inr f ↦ f
    | inl t ↦
        let z = i.marks k d m in
        let sh = share_base ws d b x hd t in
        absurd (ne (sooner-same w s k d b z.1 (i.marks_first k b g.marked d z.1 z.2 sh) (i.marks_first k d m b here new (share_sym ws d b sh))))
  ]

  still : (n d : ℕ) → put s.marked k b false n d ≡ true → (s.marked n d ≡ true) × (n ≡ k → d ≡ b → ⊥)
  still n d h = (grind arith, λ e f. grind arith)

  in_turn' : (n a d : ℕ) → before released' a d ≡ true → ws.master a ≡ ws.master d → put s.installed k b true n d ≡ true → put s.installed k b true n a ≡ true
  in_turn' n a d bef e h = elim (put_cases s.installed k b n d h) [
    | inl z ↦ let m : member a s.released ≡ true = sym (before_last a b s.released unreleased) ∙ rw z.1 at bef in
        put-old s.installed k b n a (rw (z.0, ← home, ← z.1, ← e) (i.home_first a m))
    | inr o ↦ put-old s.installed k b n a (i.in_turn n a d (sym (before-append a d s.released (b ∷ []) (i.installed_released n d o)) ∙ bef) e o)
  ]

  release-order' : (a d : ℕ) → member d released' ≡ true → before H a d ≡ true → share ws a d ≡ true → before released' a d ≡ true
  release-order' a d h bef sh = elim (push_cases d s.released b h) [
    | inl e ↦ rw e (before_last a b s.released unreleased ∙ i.installed_released k a (release-front a (rw e at bef) (rw e at sh)))
    | inr t ↦ before-append a d s.released (b ∷ []) t ∙ i.release_order a d t bef sh
  ]

  -- of what shares a base with b, just what is released is installed here
  same : (d : ℕ) → member d H ≡ true → share ws d b ≡ true → s.installed k d ≡ member d s.released
  same d hd sh = elim (cases_Bool (s.installed k d)) [
    | inl j ↦ j ∙ sym (i.installed_released k d j)
    | inr n ↦ elim (cases_Bool (member d s.released)) [
      | inr f ↦ n ∙ sym f
      | inl t ↦ elim (cases_Bool (before H d b)) [
        | inl u ↦ clash (s.installed k d) (release-front d u sh) n
        | inr v ↦ clash (member b s.released) (before_members b d s.released
            (i.release_order b d t (before_or H d b hd placed (λ e. both_ways (member d s.released) (rw e unreleased) t) v) (share_sym ws d b sh))).0 unreleased
      ]
    ]
  ]

  released-closed : Closed ws (λ a. member a s.released) H
  released-closed a c bef sh h = (before_members a c s.released (i.release_order a c h bef sh)).0

  announcements' : (d x : ℕ) → member d released' ≡ true → has_base ws d x ≡ true →
      updated s.announced b (s.result k b) d x ≡ after w d (serial_run ws (keep (λ a. before released' a d) H) w.opening) x
  announcements' d x h hd = elim (push_cases d s.released b h) [
    | inl e ↦ rw e (ap (λ (m : Amounts). m x) (updated-here s.announced b (s.result k b)) ∙ right x (rw e at hd) ∙
        alike ws w.right b _ _ (book_agrees w s i k b placed new release-front (λ a. member a s.released) released-closed same) x (rw e at hd) ∙
        ap (λ l. after w b (serial_run ws l w.opening) x) (sym (keep_same (λ a. before released' a b) (λ a. member a s.released) H (λ a _. before_last a b s.released unreleased))))
    | inr t ↦ ap (λ (m : Amounts). m x) (updated-there s.announced b (s.result k b) d (λ e. clash (member d s.released) t (rw e unreleased))) ∙ i.announcements d x t hd ∙
        ap (λ l. after w d (serial_run ws l w.opening) x) (sym (keep_same (λ a. before released' a d) (λ a. before s.released a d) H (λ a _. before-append a d s.released (b ∷ []) t)))
  ]

  pub release-keeps : Invariant w (picture_release w s k b)
  release-keeps = record {
    heard_once = i.heard_once;
    numbered_once = i.numbered_once;
    front = i.front;
    taken_heard = i.taken_heard;
    installed_released = λ n d h. elim (put_cases s.installed k b n d h) [ inl e ↦ rw e.1 (member-new s.released b) | inr o ↦ member-old d s.released b (i.installed_released n d o) ];
    installed_heard = λ n d h. elim (put_cases s.installed k b n d h) [ inl e ↦ rw (e.0, e.1) here | inr o ↦ i.installed_heard n d o ];
    home_first = λ d h. elim (push_cases d s.released b h) [ inl e ↦ rw (e, home) (put-new s.installed k b) | inr o ↦ put-old s.installed k b _ d (i.home_first d o) ];
    settled_first = λ d h. elim (push_cases d s.released b h) [ inl e ↦ rw (e, home) g.settled | inr o ↦ i.settled_first d o ];
    in_turn = in_turn';
    closed = grow_closed w s i k b placed new release-front;
    release_order = release-order';
    books = grow_books w s i k b placed new release-front (s.result k b) right;
    announcements = announcements';
    marks = λ n d m. let y = still n d m in let z = i.marks n d y.0 in (z.0, z.1, put_stay s.installed k b n d z.2 y.1);
    marks_first = λ n d m c hc nc. i.marks_first n d (still n d m).0 c hc (put_false s.installed k b n c nc);
    marks_right = λ n d x m h. let y = still n d m in
        i.marks_right n d x y.0 h ∙ alike ws w.right d _ _ (λ v hv. sym (book_away w s k b (s.result k b) n v (λ e. mark_apart d v (rw e at y.0) (y.1 e) hv))) x h;
  }
