-- What a ledger's policy may rely on: the first of an order of preference may be chosen, and where there is none nothing
-- is left.
use Rattle.std.specs.Prelude.{◌≡◌, ℕ, ◌<◌, true, List, map, Some, None, vec_items, Option}
use Rattle.std.proofs.Common.{sym, ◌∙◌}
use Rattle.wire.specs.Wire.{Posted}
use Rattle.wire.specs.Calls.{Chosen, all_there}
use Rattle.wires.specs.Laws.{sound_of}
use Rattle.wires.specs.Meaning.{meaning_of}
use Rattle.wires.specs.Orders.{head, Orders}
use Rattle.wires.specs.Parts.{posted_of, numbers_of, kept_of, kept_in}
use Rattle.wires.specs.declared.ledger.Ledger.{Ledger}
use Rattle.wires.specs.declared.page.Page.{Page}
use Rattle.wires.specs.declared.post.Post.{Post}
use Rattle.wires.proofs.Ledgers.{chosen-small}
use Rattle.wires.proofs.Preferences.{first-chosen, none_left}

module _ (l : Ledger) where
  module _ (list order : List ℕ) (orders : Orders (meaning_of l).posts list order) where
    pub may_choose : (b : ℕ) (choice : Option ℕ) → choice ≡ head order → choice ≡ Some b → Chosen (meaning_of l) list b
    may_choose b choice e is = first-chosen (meaning_of l) list order (sound_of l).posts_rooms orders b (sym e ∙ is)

    pub choice-small : (b : ℕ) (choice : Option ℕ) → choice ≡ head order → choice ≡ Some b → b < 256
    choice-small b choice e is = chosen-small l list b (may_choose b choice e is)

    pub all-chosen : (choice : Option ℕ) → choice ≡ head order → choice ≡ None → all_there (meaning_of l) list ≡ true
    all-chosen choice e is = none_left (meaning_of l) list order (sound_of l).posts_rooms orders (sym e ∙ is)

  -- an order for a room's tentative list, from the posts and the page that were read
  pub telling-choice : (order : List Posted → List ℕ → List ℕ) (room : ℕ) (page : Page) (posts : List Post) (choice : Option ℕ) → kept_of page ≡ kept_in (vec_items l.pages) room → posts ≡ vec_items l.posts → choice ≡ head (order (map posted_of posts) (numbers_of page.told)) → choice ≡ head (order (meaning_of l).posts ((meaning_of l).tentative room))
  telling-choice order room page posts choice read same e = e ∙ (λ i. head (order (map posted_of (same i)) (read i).told))
