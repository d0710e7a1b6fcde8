-- The posted batch of a number, as a wire tells it and as the list of posts has it; and what the law of a wire says of it.
use Rattle.std.proofs.Common.{◌≡◌, ℕ, zero, suc, true, List, [], ◌∷◌, get_or, Some, None, Option, MatchOption, sym, refl, ap, arith}
use Rattle.std.specs.List.{slice_get}
use Rattle.std.specs.Option.{option_map, option_map_or}
use Rattle.lists.proofs.Members.{all_get_d}
use Rattle.sets.specs.Sets.{bases, sized}
use Rattle.batches.specs.Batches.{Batch, batch_right}
use Rattle.wire.specs.Wire.{Posted, Wire}
use Rattle.wire.specs.Calls.{Sound}
use Rattle.plan.specs.Plan.{Plan}
use Rattle.order.specs.Works.{no_post, set_of, works_of}
use Rattle.order.proofs.Runs.{sized_of}

abbrev batch_at : List Posted → ℕ → Option Batch
batch_at posts n = option_map (λ (p : Posted). p.batch) (slice_get posts n)

pub posted-some : (posts : List Posted) (n : ℕ) (b : Batch) → Some b ≡ batch_at posts n → (get_or posts n no_post).batch ≡ b
posted-some [] n b e = let z : ◌≡◌ {A = ℕ} 0 1 = cc in absurd (omega arith)
posted-some (p ∷ ps) zero b e = cc
posted-some (p ∷ ps) (suc n) b e = posted-some ps n b e

pub posted-none : (posts : List Posted) (n : ℕ) → None ≡ batch_at posts n → get_or posts n no_post ≡ no_post
posted-none [] n e = refl
posted-none (p ∷ ps) zero e = let z : ◌≡◌ {A = ℕ} 0 1 = cc in absurd (omega arith)
posted-none (p ∷ ps) (suc n) e = posted-none ps n e

-- what a function makes of an option's value, or what stands for none
pub mapped : {A : Type 0} (o : Option A) (v : A → ℕ) (d r : ℕ) (Post : A → Type 0) → MatchOption o (r ≡ d) Post → ((x : A) → Post x → r ≡ v x) → r ≡ option_map_or v o d
mapped None v d r Post m k = m
mapped (Some x) v d r Post m k = k x m

-- the set of the posted batch of a number, or of what stands for it
pub set_told : {A : Type 0} (view : A → Batch) (posts : List Posted) (n : ℕ) (o : Option A) → option_map view o ≡ batch_at posts n → option_map_or (λ x. (view x).set) o 1 ≡ (get_or posts n no_post).batch.set
set_told view posts n None e = sym (ap (λ (p : Posted). p.batch.set) (posted-none posts n e))
set_told view posts n (Some x) e = sym (ap (λ (b : Batch). b.set) (posted-some posts n (view x) e))

-- every batch that a wire tells of has one to eight bases
pub posts-sized : (p : Plan) (w : Wire) → Sound w → (b : ℕ) → sized (set_of (works_of p w.posts) b) ≡ true
unfolding bases
posts-sized p w s b = sized_of ((works_of p w.posts).batch b) (all_get_d (λ (x : Posted). batch_right x.batch) w.posts no_post s.batches_right refl b)
