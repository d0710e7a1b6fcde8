-- A row of pages as a function from rooms: one page replaced is one value replaced, and what a call does to a page is what
-- it does to the wire.
use Rattle.std.specs.Prelude.{◌≡◌, ℕ, zero, suc, ◌<◌, List, [], ◌∷◌, ◌++◌, map, length, get_or, ◌==◌, slice_index_or, slice_set, refl}
use Rattle.std.proofs.Common.{sym, ap, ◌∙◌, inl, inr, get_or-set_same, get_or-set_other}
use Rattle.std.proofs.Math.Path.{fun_ext}
use Rattle.std.proofs.lemmas.List.{get_or-map, map-set, length-map}
use Rattle.std.proofs.lemmas.Bool.{cases_Bool, cases_eq, eqb-true, eq-eqb, ne_eqb}
use Rattle.lists.specs.Words.{updated}
use Rattle.wire.specs.Wire.{Posted}
use Rattle.wire.specs.Calls.{with_heard, with_taken, with_announced, with_received}
use Rattle.wire.specs.declared.announcement.Announcement.{Announcement}
use Rattle.wires.specs.Kept.{Kept, blank, wire_of, also_told, also_announced, also_taken, also_received}
use Rattle.wires.specs.Parts.{kept_of, kept_in}
use Rattle.wires.specs.declared.page.Page.{Page}

set-updated : {X : Type 0} (xs : List X) (i : ℕ) (x d : X) → i < length xs → (n : ℕ) → slice_index_or (slice_set xs i x) n d ≡ updated (λ n. get_or xs n d) i x n
set-updated xs i x d h n =
    elim (cases_eq n i) [
      | inl same ↦ rw (same, eq-eqb i i refl) (get_or-set_same xs i x d h)
      | inr apart ↦ rw (ne_eqb n i apart) (get_or-set_other xs i n x d apart)
    ]

-- the page that was read
pub page-read : (pages : List Page) (room : ℕ) (p : Page) → room < length pages → p ≡ slice_index_or pages room p → kept_of p ≡ kept_in pages room
page-read pages room p h e = ap kept_of e ∙ sym (get_or-map kept_of pages room p blank h)

-- the pages after one was replaced
pub page-set : (pages : List Page) (room : ℕ) (p : Page) → room < length pages → kept_in (slice_set pages room p) ≡ updated (kept_in pages) room (kept_of p)
page-set pages room p h =
    ap (λ ks n. get_or ks n blank) (map-set kept_of pages room p)
    ∙ fun_ext (set-updated (map kept_of pages) room (kept_of p) blank (rw length-map h))

-- a blank page put after blank pages leaves them blank
pub blank-push : (pages : List Page) (p : Page) (after : List Page) → after ≡ pages ++ p ∷ [] → kept_of p ≡ blank → kept_in pages ≡ (λ _. blank) → kept_in after ≡ (λ _. blank)
blank-push pages p after e new old = ap kept_in e ∙ fun_ext (λ room. more pages room (ap (λ (kept : ℕ → Kept). kept room) old))
  where
    more : (pages : List Page) (room : ℕ) → kept_in pages room ≡ blank → kept_in (pages ++ p ∷ []) room ≡ blank
    more [] zero e = new
    more [] (suc room) e = refl
    more (q ∷ qs) zero e = e
    more (q ∷ qs) (suc room) e = more qs room e

module _ (kept : ℕ → Kept) (room : ℕ) where
  -- one value replaced in the rows, part by part
  pub part_new : {X : Type 0} (part : Kept → X) (k : Kept) → ◌≡◌ {A = ℕ → X} (λ r. part (updated kept room k r)) (updated (λ r. part (kept r)) room (part k))
  part_new part k = fun_ext (λ r. elim (cases_Bool (r == room)) [ inl t ↦ rw t | inr f ↦ rw f ])

  pub part_old : {X : Type 0} (part : Kept → X) (k : Kept) → part k ≡ part (kept room) → ◌≡◌ {A = ℕ → X} (λ r. part (updated kept room k r)) (λ r. part (kept r))
  part_old part k e = fun_ext (λ r. elim (cases_Bool (r == room)) [ inl t ↦ rw (t, eqb-true r room t) e | inr f ↦ rw f ])

module _ (posts : List Posted) (definitive : List ℕ) (kept : ℕ → Kept) (room : ℕ) where
  pub told-wire : (b : ℕ) → wire_of posts definitive (updated kept room (also_told (kept room) b)) ≡ with_heard (wire_of posts definitive kept) room b
  told-wire b =
      let k = also_told (kept room) b in
      let t = part_new kept room (λ k. k.told) k in
      let a = part_old kept room (λ k. k.announced) k refl in
      let n = part_old kept room (λ k. k.taken) k refl in
      let r = part_old kept room (λ k. k.received) k refl in
      cc

  pub announced-wire : (a : Announcement) → wire_of posts definitive (updated kept room (also_announced (kept room) a)) ≡ with_announced (wire_of posts definitive kept) room a
  announced-wire a =
      let k = also_announced (kept room) a in
      let t = part_old kept room (λ k. k.told) k refl in
      let a = part_new kept room (λ k. k.announced) k in
      let n = part_old kept room (λ k. k.taken) k refl in
      let r = part_old kept room (λ k. k.received) k refl in
      cc

  pub taken-wire : wire_of posts definitive (updated kept room (also_taken (kept room))) ≡ with_taken (wire_of posts definitive kept) room
  taken-wire =
      let k = also_taken (kept room) in
      let t = part_old kept room (λ k. k.told) k refl in
      let a = part_old kept room (λ k. k.announced) k refl in
      let n = part_new kept room (λ k. k.taken) k in
      let r = part_old kept room (λ k. k.received) k refl in
      cc

  pub received-wire : (sender : ℕ) → wire_of posts definitive (updated kept room (also_received (kept room) sender)) ≡ with_received (wire_of posts definitive kept) room sender
  received-wire sender =
      let k = also_received (kept room) sender in
      let t = part_old kept room (λ k. k.told) k refl in
      let a = part_old kept room (λ k. k.announced) k refl in
      let n = part_old kept room (λ k. k.taken) k refl in
      let r = part_new kept room (λ k. k.received) k in
      cc
