-- A sender's announcements in their order: where a released batch is announced, and that the order of announcing is the
-- order of release.
use Rattle.std.proofs.Common.{◌≡◌, ℕ, ◌<◌, true, eqb, ltb, List, map, length, sym, ap, ◌∙◌, subst}
use lib.ListN.{length-map}
use Rattle.std.proofs.lemmas.List.{get_or-map}
use Rattle.std.proofs.lemmas.Bool.{eq-eqb, and_from}
use Rattle.lists.specs.Words.{member, place, Distinct}
use Rattle.lists.proofs.Keeps.{member-keep, place-keep}
use Rattle.lists.proofs.Places.{place_short, place-get_or, get_or-place}
use Rattle.lists.proofs.Distincts.{distinct_keep}
use Rattle.wire.specs.Wire.{Wire}
use Rattle.wire.specs.Calls.{no_announcement}
use Rattle.wire.specs.declared.announcement.Announcement.{Announcement}
use Rattle.agreement.proofs.Pictures.{Scene, Picture}
use Rattle.agreement.proofs.Fits.{announcement, WireFits}

-- the batches that a sender has announced
abbrev pub announced_by : Wire → ℕ → List ℕ
announced_by v m = map (λ (a : Announcement). a.batch) (v.announced m)

module _ (w : Scene) (s : Picture) (v : Wire) (o : WireFits w s v) (once : Distinct s.released) where
  abbrev L : ℕ → List ℕ
  L m = announced_by v m

  pub announced-once : (m : ℕ) → Distinct (announced_by v m)
  announced-once m = rw (o.announced_are m) (distinct_keep (λ b. eqb (w.works.master b) m) s.released once)

  L-long : (m : ℕ) → length (L m) ≡ length (v.announced m)
  L-long m = length-map (v.announced m) (λ (a : Announcement). a.batch)

  pub announced-place : (m j : ℕ) → j < length (v.announced m) → place (announcement v m j).batch (announced_by v m) ≡ j
  announced-place m j l = subst (λ a. place a (L m) ≡ j) (get_or-map (λ (a : Announcement). a.batch) (v.announced m) j no_announcement 0 l) (place-get_or (L m) j (announced-once m) (rw (L-long m) l))

  -- a released batch has been announced by its master
  pub announced_at : (m a : ℕ) → w.works.master a ≡ m → member a s.released ≡ true → (place a (announced_by v m) < length (v.announced m)) × ((announcement v m (place a (announced_by v m))).batch ≡ a)
  announced_at m a e ma =
      let u : member a (L m) ≡ true = ap (member a) (o.announced_are m) ∙ member-keep (λ b. eqb (w.works.master b) m) a s.released ∙ and_from _ _ (eq-eqb _ _ e) ma in
      let l : place a (L m) < length (v.announced m) = rw (L-long m) at (place_short a (L m) u) in
      (l, sym (get_or-map (λ (a : Announcement). a.batch) (v.announced m) (place a (L m)) no_announcement 0 l) ∙ get_or-place a (L m) u)

  pub announced-order : (m a b : ℕ) → w.works.master a ≡ m → w.works.master b ≡ m → member a s.released ≡ true → member b s.released ≡ true →
      ltb (place a (announced_by v m)) (place b (announced_by v m)) ≡ ltb (place a s.released) (place b s.released)
  announced-order m a b ea eb ma mb = ap (λ l. ltb (place a l) (place b l)) (o.announced_are m) ∙ place-keep (λ b. eqb (w.works.master b) m) a b s.released (eq-eqb _ _ ea) (eq-eqb _ _ eb) ma mb
