-- Running keeps the invariant: the new mark is the run on the book as it is, of a batch first in its lines.
use Rattle.std.proofs.Common.{◌≡◌, ℕ, true, false, cond, ◌&&◌, eqb, ap, ◌∙◌, inl, inr, arith}
use Rattle.stock.specs.Stock.{Amounts}
use Rattle.agreement.proofs.Pictures.{Scene, Picture, Invariant, after, put, picture_run, MayRun}
use Rattle.agreement.proofs.Puts.{entry_cases}

module _ (w : Scene) (s : Picture) (i : Invariant w s) (k b : ℕ) (g : MayRun w s k b) where
  abbrev result' : ℕ → ℕ → Amounts
  result' n a = cond (eqb n k && eqb a b) (after w b (s.book k)) (s.result n a)

  result-new : result' k b ≡ after w b (s.book k)
  result-new = let z : (eqb k k && eqb b b) ≡ true = grind arith in rw z

  result-old : (n a : ℕ) → (n ≡ k → a ≡ b → ⊥) → result' n a ≡ s.result n a
  result-old n a ne = let z : (eqb n k && eqb a b) ≡ false = grind arith in rw z

  old : (n a : ℕ) → put s.marked k b true n a ≡ true → (n ≡ k → a ≡ b → ⊥) → s.marked n a ≡ true
  old n a h ne = grind arith

  pub run-keeps : Invariant w (picture_run w s k b)
  run-keeps = record {
    heard_once = i.heard_once;
    numbered_once = i.numbered_once;
    front = i.front;
    taken_heard = i.taken_heard;
    installed_released = i.installed_released;
    installed_heard = i.installed_heard;
    home_first = i.home_first;
    settled_first = i.settled_first;
    in_turn = i.in_turn;
    closed = i.closed;
    release_order = i.release_order;
    books = i.books;
    announcements = i.announcements;
    marks = λ n a m. elim (entry_cases k b n a) [ inl e ↦ rw (e.0, e.1) (g.home, g.heard, g.new) | inr ne ↦ i.marks n a (old n a m ne) ];
    marks_first = λ n a m. elim (entry_cases k b n a) [ inl e ↦ rw (e.0, e.1) g.leading | inr ne ↦ i.marks_first n a (old n a m ne) ];
    marks_right = λ n a x m h. elim (entry_cases k b n a) [
      | inl e ↦ rw (e.0, e.1) (ap (λ (v : Amounts). v x) result-new)
      | inr ne ↦ ap (λ (v : Amounts). v x) (result-old n a ne) ∙ i.marks_right n a x (old n a m ne) h
    ];
  }
