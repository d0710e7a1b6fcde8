use Rattle.std.proofs.Common.{◌≡◌, refl, ap, ◌∙◌}
use Rattle.std.proofs.lemmas.Result.{err_from_is_err_and}
use Rattle.stock.specs.Stock.{Stock}
use Rattle.wire.specs.Wire.{Wire}
use Rattle.wire.specs.Calls.{next_announcement, amounts_small}
use Rattle.wire.specs.declared.announcement.Announcement.{Announcement}
use Rattle.order.specs.Works.{Works, set_of}
use Rattle.agreement.specs.Rooms.{too_few, book_written}
use Rattle.rooms.specs.Views.{room_of, works}
use Rattle.rooms.proofs.Causes.{err_cause, ok_cause, installable, write_taken_lem, next_small}
use Rattle.rooms.proofs.room.Room.install.Goals as goal

pub returns-in_err-announcement : goal.returns-in_err-announcement
returns-in_err-announcement g c =
    let p = err_from_is_err_and c.from_residual.result c.from_residual.ensures.1 in
    rw (p.1, p.2) (record { cases = record { why = err_cause _ _ _ c.in_err-announcement.ensures; room = refl; wire = refl; book = refl }; choice = g.met.W.Wire.idle _ })

pub write_amounts-requires : goal.write_amounts-requires
write_amounts-requires g c =
    let wire = c.args.wire.now in
    let m : Wire = g.W.Wire.meaning wire in
    let w : Works = works c.args.plan.now m in
    let s : Stock = g.B.Book.holds c.args.book.now in
    let r = c.args.self.now in
    let set = c.set_of-set.ensures.value in
    let a = c.in_ok-announcement.announcement in
    let ok = ok_cause _ _ _ c.in_ok-announcement.ensures in
    let is : a ≡ next_announcement m r.number c.args.sender = ok.1 in
    let enough = ap (λ (x : Announcement). too_few w s x.batch) is ∙ (installable _ w m r.number (room_of r) s c.args.sender ok.0).enough in
    let small = ap amounts_small is ∙ next_small m (g.met.W.Wire.sound wire) r.number c.args.sender in
    write_taken_lem s c.set_of-set.result a.result.amounts c.set_of-set.ensures.sized (rw set enough) small

pub returns-clause-cases : goal.returns-clause-cases
returns-clause-cases g c =
    let m : Wire = g.W.Wire.meaning c.args.wire.now in
    let w : Works = works c.args.plan.now m in
    let r = c.args.self.now in
    let s : Stock = g.B.Book.holds c.args.book.now in
    let t : Stock = g.B.Book.holds c.write_amounts.new.book in
    let set = c.set_of-set.ensures.value in
    let a = c.in_ok-announcement.announcement in
    let ok = ok_cause _ _ _ c.in_ok-announcement.ensures in
    let is : a ≡ next_announcement m r.number c.args.sender = ok.1 in
    let taken = rw c.unwrap.ensures at c.take_announcement.ensures.cases in
    record {
      taken = ok.0;
      batch = ap (λ (x : Announcement). x.batch) is;
      wire = taken.after;
      book = c.write_amounts.ensures.after ∙ ap (λ x. book_written x a.result.amounts t.spare s) set ∙ ap (λ (x : Announcement). book_written (set_of w a.batch) x.result.amounts t.spare s) is;
      spare = rw set at c.write_amounts.ensures.spare;
      number = c.put_away.ensures.number;
      room = c.put_away.ensures.after;
    }
