use Rattle.std.proofs.Common.{rules, ◌≡◌, Bor, ap, ◌∙◌}
use Rattle.batches.specs.Sealed.{batch_of}
use Rattle.batches.specs.declared.sealed.SealedBatch.{SealedBatch}
use Rattle.plan.specs.Plans.{plan_of}
use Rattle.sets.specs.Sets.{sized}
use Rattle.order.specs.Works.{set_of}
use Rattle.rooms.specs.Views.{works_in}
use Rattle.rooms.proofs.Posts.{mapped, set_told, posts-sized}
use Rattle.rooms.proofs.works.Works.set_of.Goals as goal

pub returns : goal.returns
returns g c =
    let wire = c.self.inside.wire.now in
    let w = g.W.Wire.meaning wire in
    let b = c.args.batch in
    let told : c.map_or.result ≡ set_of (works_in c.args.self.now) b =
    rw (← c.self.view_is) (mapped c.batch.result (λ (x : Bor SealedBatch). (batch_of x.now).set) 1 c.map_or.result _ c.map_or.ensures (λ x p. search rules) ∙ set_told (λ (x : Bor SealedBatch). batch_of x.now) w.posts b c.batch.result c.batch.ensures) in
    record { value = told; sized = ap sized told ∙ rw (← c.self.view_is) (posts-sized (plan_of c.self.inside.plan.now) w (g.met.W.Wire.sound wire) b) }
