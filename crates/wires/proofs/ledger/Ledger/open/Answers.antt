use Rattle.std.proofs.Common.{vec_items, sym, subst, rules}
use Rattle.wire.specs.Calls.{Sound}
use Rattle.wires.specs.Parts.{numbers_of}
use Rattle.wires.proofs.Ledgers.{open_after, marked-none, counted_none}
use Rattle.wires.proofs.Sounds.{new-sound}
use Rattle.wires.proofs.ledger.Ledger.open.Goals as goal

pub invariant_of-result : goal.invariant_of-result
invariant_of-result c =
    let posts = c.in_ok-posts.ensures in
    let pages = c.in_ok-pages.ensures in
    let after = open_after (vec_items c.in_ok-posts.posts) (numbers_of c.in_ok-definitive.definitive) (vec_items c.in_ok-pages.pages) posts.items c.in_ok-definitive.ensures pages.1 in
    record {
      place = search rules;
      eight = search rules;
      sound = ∣ subst Sound (sym after) new-sound ∣₁;
      marked = marked-none (vec_items c.in_ok-posts.posts) (vec_items c.in_ok-pages.pages) posts.items pages.1;
      counted = counted_none (vec_items c.in_ok-posts.posts) (vec_items c.in_ok-pages.pages) pages.1;
    }

pub returns : goal.returns
returns c =
    open_after (vec_items c.in_ok-posts.posts) (numbers_of c.in_ok-definitive.definitive) (vec_items c.in_ok-pages.pages) c.in_ok-posts.ensures.items c.in_ok-definitive.ensures c.in_ok-pages.ensures.1
