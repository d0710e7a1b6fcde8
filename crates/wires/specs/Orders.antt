-- Which batch a wire chooses for a list: the first of an order of preference over the batches that are left.
use Rattle.std.specs.Prelude.{◌≡◌, ℕ, ◌+◌, ◌%◌, Bool, true, not, List, [], ◌∷◌, ◌++◌, map, length, Some, None, Option, nat_eq, nat_lt, slice_index}
use Rattle.std.specs.List.{flat_map}
use Rattle.lists.specs.Words.{all, member, keep, rising}
use Rattle.wire.specs.Wire.{Posted}

-- the posts, and a list that lacks some of them
pub record Lacking : Type 0 where
  pub posts : List Posted
  pub list : List ℕ

-- the first of an order, if it has any
abbrev pub head : List ℕ → Option ℕ
head [] = None
head (b ∷ bs) = Some b

-- the posted batches that are not in the list, oldest first
abbrev pub left : List Posted → List ℕ → List ℕ
left posts list = keep (λ b. not (member b list)) (rising 0 (length posts))

-- the room that posted a batch
abbrev pub poster : List Posted → ℕ → ℕ
poster posts b = slice_index (map (λ (p : Posted). p.room) posts) b

-- those left that a room posted
abbrev pub left_of : List Posted → List ℕ → ℕ → List ℕ
left_of posts list room = keep (λ b. nat_eq (poster posts b) room) (left posts list)

-- the rooms going round from one of them: after 7 comes 0
unfoldable pub round : ℕ → List ℕ
round from = map (λ k. (from + k) % 8) (rising 0 8)

-- those left, room after room, going round from one
abbrev pub left_round : List Posted → List ℕ → ℕ → List ℕ
left_round posts list from = flat_map (left_of posts list) (round from)

-- the wish where it is among the batches
abbrev pub wished : Option ℕ → List ℕ → List ℕ
wished None bs = []
wished (Some wish) bs = keep (nat_eq wish) bs

-- a room's own posts first, then the others, oldest first
abbrev pub own_first : List Posted → List ℕ → ℕ → List ℕ
own_first posts list room = left_of posts list room ++ left posts list

-- the wish where it is allowed, then the lowest batch allowed
abbrev pub wish_first : Option ℕ → List Posted → List ℕ → List ℕ
wish_first wish posts list = wished wish (left posts list) ++ left posts list

-- every post is by one of eight rooms
abbrev pub rooms_right : List Posted → Bool
rooms_right posts = all (λ (p : Posted). nat_lt p.room 8) posts

-- an order of preference names what is left and nothing else
abbrev pub Orders : List Posted → List ℕ → List ℕ → Type 0
Orders posts list order = rooms_right posts ≡ true → (b : ℕ) → member b order ≡ member b (left posts list)

-- a batch was chosen by an order of preference, and this is the policy after it
pub record ByOrder {P : Type 0} (order : List ℕ) (b : ℕ) (policy due : P) : Type 0 where
  pub value : head order ≡ Some b
  pub after : policy ≡ due
