-- Installing keeps the invariant. The serializer is first in the lines of the batch, so all that comes before the batch
-- in the house order and shares a base is installed here. The announced amounts are what the batch leaves after those
-- released before it; of these, the ones that share a base with it are just those installed here.
use Rattle.std.proofs.Common.{◌≡◌, ℕ, true, false, List, sym, ap, ◌∙◌, inl, inr}
use Rattle.std.proofs.lemmas.Bool.{cases_Bool, both_ways}
use Rattle.lists.specs.Words.{member, before}
use Rattle.lists.proofs.Befores.{before_members, before_or, before_self, before_flip}
use Rattle.order.specs.Works.{Works, has_base, share}
use Rattle.order.proofs.Walks.{with_base}
use Rattle.order.proofs.Serializers.{serializer_with, serializer-master}
use Rattle.order.proofs.Serials.{share_base, share_sym, alike}
use Rattle.agreement.proofs.Pictures.{Scene, Picture, Invariant, order_of, after, serializer_of, picture_install, MayInstall}
use Rattle.agreement.proofs.Puts.{clash, put-old, put_cases, put_false, put_stay}
use Rattle.agreement.proofs.Standing.{sooner-same, front-install}
use Rattle.agreement.proofs.Growing.{book_away, released-placed, released-closed, grow_closed, book_agrees, installed-before, grow_books}

module _ (w : Scene) (s : Picture) (i : Invariant w s) (k c : ℕ) (g : MayInstall w s k c) where
  abbrev ws : Works
  ws = w.works

  abbrev H : List ℕ
  H = order_of w s

  abbrev q : ℕ
  q = serializer_of w s c

  placed : member c H ≡ true
  placed = released-placed w s i c g.released

  pub install-front : (a : ℕ) → before H a c ≡ true → share ws a c ≡ true → s.installed k a ≡ true
  install-front = front-install w s i k c g.elsewhere placed g.released g.settled g.next g.leading

  same : (b : ℕ) → member b H ≡ true → share ws b c ≡ true → s.installed k b ≡ before s.released b c
  same b hb sh = elim (cases_Bool (s.installed k b)) [
    | inl j ↦ j ∙ sym (i.release_order b c g.released (installed-before w s i k c placed g.new install-front b hb sh j) sh)
    | inr n ↦ elim (cases_Bool (before s.released b c)) [
      | inr f ↦ n ∙ sym f
      | inl t ↦ elim (cases_Bool (before H b c)) [
        | inl u ↦ clash (s.installed k b) (install-front b u sh) n
        | inr v ↦ clash (before s.released c b) (i.release_order c b (before_members b c s.released t).0
            (before_or H b c hb placed (λ e. both_ways (before s.released b c) (rw e (before_self s.released c)) t) v) (share_sym ws b c sh)) (before_flip s.released b c t)
      ]
    ]
  ]

  right : (x : ℕ) → has_base ws c x ≡ true → s.announced c x ≡ after w c (s.book k) x
  right x h = i.announcements c x g.released h ∙
      sym (alike ws w.right c _ _ (book_agrees w s i k c placed g.new install-front (λ a. before s.released a c) (released-closed w s i c) same) x h)

  -- a marked batch shares no base with c
  mark_apart : (b x : ℕ) → s.marked k b ≡ true → has_base ws b x ≡ true → has_base ws c x ≡ false
  mark_apart b x m hb = elim (cases_Bool (has_base ws c x)) [
    | inr f ↦ f
    | inl t ↦
        let z = i.marks k b m in
        let f1 = g.leading b z.1 z.2 (λ e. g.elsewhere (ap ws.master (sym e) ∙ z.0)) (share_base ws b c x hb t) in
        let hq = with_base ws s.heard c q x (serializer_with ws s.heard s.definitive i.numbered_once c placed) t in
        let f2 = i.marks_first k b m q (i.taken_heard k q g.settled) g.there (share_base ws q b x hq hb) in
        let e = sooner-same w s k b q z.1 f1 f2 in
        absurd (g.elsewhere (sym (serializer-master ws s.heard s.definitive i.numbered_once c placed) ∙ ap ws.master (sym e) ∙ z.0))
  ]

  pub install-keeps : Invariant w (picture_install w s k c)
  install-keeps = record {
    heard_once = i.heard_once;
    numbered_once = i.numbered_once;
    front = i.front;
    taken_heard = i.taken_heard;
    installed_released = λ n b h. elim (put_cases s.installed k c n b h) [ inl e ↦ rw e.1 g.released | inr o ↦ i.installed_released n b o ];
    installed_heard = λ n b h. elim (put_cases s.installed k c n b h) [ inl e ↦ rw (e.0, e.1) g.heard | inr o ↦ i.installed_heard n b o ];
    home_first = λ b h. put-old s.installed k c _ b (i.home_first b h);
    settled_first = i.settled_first;
    in_turn = λ n a b bef e h. elim (put_cases s.installed k c n b h) [
      | inl z ↦ put-old s.installed k c n a (rw z.0 (g.next a (rw z.1 at bef) (rw z.1 at e)))
      | inr o ↦ put-old s.installed k c n a (i.in_turn n a b bef e o)
    ];
    closed = grow_closed w s i k c placed g.new install-front;
    release_order = i.release_order;
    books = grow_books w s i k c placed g.new install-front (s.announced c) right;
    announcements = i.announcements;
    marks = λ n b m. let z = i.marks n b m in (z.0, z.1, put_stay s.installed k c n b z.2 (λ e f. g.elsewhere (ap ws.master (sym f) ∙ z.0 ∙ e)));
    marks_first = λ n b m d hd nd. i.marks_first n b m d hd (put_false s.installed k c n d nd);
    marks_right = λ n b x m h. i.marks_right n b x m h ∙ alike ws w.right b _ _ (λ y hy. sym (book_away w s k c (s.announced c) n y (λ e. mark_apart b y (rw e at m) hy))) x h;
  }
