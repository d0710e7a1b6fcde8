use Rattle.std.proofs.Common.{ℕ, false, vec_items, refl, ap, ◌∙◌, arith, rules}
use Rattle.batches.specs.Sealed.{batch_of}
use Rattle.wire.specs.Calls.{with_post}
use Rattle.wires.specs.Meaning.{meaning_of}
use Rattle.wires.specs.declared.post.Post.{Post}
use Rattle.wires.proofs.Ledgers.{still-sound, posts-len, post-after, marked-posted, counted-posted}
use Rattle.wires.proofs.Sounds.{post-sound}
use Rattle.wires.proofs.ledger.Ledger.post.Goals as goal

pub push_reserved-requires : goal.push_reserved-requires
push_reserved-requires c = let l = c.args.self.now in omega (arith, posts-len l, l.place)

pub invariant_of-self : goal.invariant_of-self
invariant_of-self c =
    let l = c.args.self.now in
    let w = meaning_of l in
    let room = c.in_ok-room.room in
    let batch = c.args.batch in
    let posts = vec_items c.push_reserved.new.self in
    let post : Post = record { room = room; batch = batch; announced = false } in
    let pushed = c.push_reserved.ensures.items in
    record {
      place = search rules;
      eight = l.eight;
      sound = still-sound l _ (with_post w room.number (batch_of batch)) (post-after l posts post pushed refl) (λ s. post-sound w s room.number (batch_of batch) room.small (omega arith) batch.right);
      marked = marked-posted l posts post pushed refl;
      counted = counted-posted l posts post pushed refl;
    }

pub returns : goal.returns
returns c =
    let l = c.args.self.now in
    let post : Post = record { room = c.in_ok-room.room; batch = c.args.batch; announced = false } in
    let small = c.in_ok-room.room.small in
    record {
      cases = record {
        cause = search rules;
        value = search rules;
        after =
            post-after l (vec_items c.push_reserved.new.self) post c.push_reserved.ensures.items refl
            ∙ ap (λ (room : ℕ). with_post (meaning_of l) room (batch_of c.args.batch)) c.in_ok-room.ensures;
      };
      same = tt;
    }
