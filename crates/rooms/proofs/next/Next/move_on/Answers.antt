use Rattle.std.proofs.Common.{◌≡◌, ℕ, ◌-◌, not, List, [], ◌∷◌, ◌++◌, length, take, drop, sym, ap, ◌∙◌, append_assoc, arith}
use Rattle.std.proofs.lemmas.List.{length-append, take_rest, drop_at}
use Rattle.std.proofs.lemmas.Bool.{ltb-true}
use Rattle.lists.specs.Words.{member, keep}
use Rattle.lists.proofs.Members.{all_at}
use Rattle.order.specs.Works.{Works}
use Rattle.rooms.specs.Lists.{numbers_of}
use Rattle.rooms.specs.Records.{known}
use Rattle.rooms.specs.Settles.{ahead_of}
use Rattle.rooms.specs.Views.{works_in}
use Rattle.rooms.proofs.Moves.{ahead-few, moved-few}
use Rattle.rooms.proofs.next.Next.move_on.Goals as goal

pub append-requires : goal.append-requires
append-requires g c =
    let next = c.args.self.now in
    let w : Works = works_in next.works.now in
    let l = c.args.waiting.now in
    let xs = numbers_of l in
    let old = numbers_of c.args.settled.now in
    record {
      small = ltb-true next.batch 256 (all_at known xs l.known next.batch c.requires.there);
      few = omega (arith, ap length c.send_ahead-ahead.ensures.after, length-append old (ahead_of w next.room xs next.batch), ahead-few w next.room xs next.batch c.requires.there, c.requires.few);
    }

pub returns : goal.returns
returns g c =
    let next = c.args.self.now in
    let w : Works = works_in next.works.now in
    let xs = numbers_of c.args.waiting.now in
    let old = numbers_of c.args.settled.now in
    let t = next.batch in
    let gone : List ℕ = ahead_of w next.room xs t in
    let settled : numbers_of c.append.new.self ≡ old ++ (gone ++ t ∷ []) = c.append.ensures ∙ ap (λ l. l ++ t ∷ []) c.send_ahead-ahead.ensures.after ∙ append_assoc old gone (t ∷ []) in
    let now-settled = c.as_slice.result.now in
    let before = c.len-before.result in
    let moved : take (length now-settled - before) (drop before now-settled) ≡ gone ++ t ∷ [] =
    take_rest now-settled before ∙ ap (drop before) (c.as_slice.ensures ∙ settled) ∙ drop_at old (gone ++ t ∷ []) before (sym c.len-before.ensures) in
    let waiting : numbers_of c.take_out_all.new.self ≡ keep (λ b. not (member b (gone ++ t ∷ []))) xs = c.take_out_all.ensures ∙ ap (λ l. keep (λ b. not (member b l)) xs) moved in
    record {
      value = c.send_ahead-ahead.ensures.value;
      settled = settled;
      waiting = waiting;
      few = omega (arith, moved-few w next.room xs t c.requires.there, ap length waiting, ap length settled, length-append old (gone ++ t ∷ []));
    }
