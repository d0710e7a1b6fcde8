use Rattle.std.proofs.Common.{ℕ, ◌<◌, length, None, vec_items, Option, ap, ◌∙◌, arith}
use Rattle.std.proofs.lemmas.List.{get_or_read}
use Rattle.std.proofs.lemmas.Bool.{or_right, ltb-true}
use Rattle.lists.specs.Words.{member, updated}
use Rattle.batches.specs.declared.outcome.RunResult.{RunResult}
use Rattle.agreement.specs.Rooms.{Room}
use Rattle.rooms.specs.Lists.{numbers_of}
use Rattle.rooms.specs.Records.{blank}
use Rattle.rooms.proofs.Causes.{stood_known}
use Rattle.rooms.proofs.Removals.{without-none}
use Rattle.rooms.proofs.Tables.{marks-after, names_after}
use Rattle.rooms.proofs.room.Room.release_batch.Goals as goal

pub index_mut-requires : goal.index_mut-requires
index_mut-requires c =
    let r = c.args.self.now in
    omega (arith, c.put_away.new.self.table, ltb-true c.args.batch 256 (stood_known r c.args.batch (or_right (member c.args.batch (numbers_of r.waiting)) _ c.requires.settled)))

pub returns : goal.returns
returns c =
    let r = c.args.self.now in
    let b = c.args.batch in
    let s = c.put_away.new.self in
    let e = c.put_away.ensures.after in
    let low = ltb-true b 256 (stood_known r b (or_right (member b (numbers_of r.waiting)) _ c.requires.settled)) in
    let h : b < length (vec_items s.records) = omega (arith, low, s.table, s.records.ok.0) in
    let x = c.index_mut.result.now in
    let is = get_or_read (vec_items s.records) b x h c.index_mut.ensures.value blank in
    let waiting = ap (λ (q : Room). q.waiting) e ∙ without-none b (numbers_of r.waiting) c.requires.waiting in
    let settled = ap (λ (q : Room). q.settled) e in
    let installed = ap (λ (q : Room). q.installed) e in
    let marks = marks-after (vec_items s.records) b h x is None ∙ ap (λ (f : ℕ → Option RunResult). updated f b None) (ap (λ (q : Room). q.mark) e) in
    let names = names_after (vec_items s.records) b h x is None ∙ ap (λ (q : Room). q.serializer) e in
    record {
      after = λ i. record { waiting = waiting i; settled = settled i; installed = installed i; mark = marks i; serializer = names i };
      number = c.put_away.ensures.number;
    }
