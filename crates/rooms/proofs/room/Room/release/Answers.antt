use Rattle.std.proofs.Common.{◌≡◌, sym, refl, ap, ◌∙◌}
use Rattle.std.proofs.lemmas.Result.{err_from_is_err_and}
use Rattle.stock.specs.Stock.{Stock}
use Rattle.wire.specs.Wire.{Wire}
use Rattle.wire.specs.Calls.{with_announced, announce_cause}
use Rattle.wire.specs.declared.announcement.Announcement.{Announcement}
use Rattle.order.specs.Works.{Works, set_of}
use Rattle.agreement.specs.Rooms.{announcement_of, book_written}
use Rattle.rooms.specs.Views.{room_of, works}
use Rattle.rooms.proofs.Causes.{err_cause, ok_cause, or_else-both, or_else-next, or_else-first, releasable, write_taken_lem, announce-small}
use Rattle.rooms.proofs.room.Room.release.Goals as goal

pub returns-in_err-announcement : goal.returns-in_err-announcement
returns-in_err-announcement g c =
    let p = err_from_is_err_and c.from_residual.result c.from_residual.ensures.1 in
    rw (p.1, p.2) (record { cases = record { why = or_else-first _ _ _ (err_cause _ _ _ c.in_err-announcement.ensures); room = refl; wire = refl; book = refl }; choice = g.met.W.Wire.idle _ })

pub returns-in_err-announce : goal.returns-in_err-announce
returns-in_err-announce g c =
    let p = err_from_is_err_and c.from_residual-in_err-announce.result c.from_residual-in_err-announce.ensures.1 in
    let k = c.args.self.now.number in
    let m : Wire = g.W.Wire.meaning c.args.wire.now in
    let ok = ok_cause _ _ _ c.in_ok-announcement.ensures in
    let told = c.in_err-announce.ensures in
    rw (p.1, p.2) (record { cases = record { why = or_else-next _ _ _ ok.0 (ap (announce_cause m k) (sym ok.1) ∙ told.cases.cause); room = refl; wire = told.same; book = refl }; choice = told.choice })

pub write_amounts-requires : goal.write_amounts-requires
write_amounts-requires g c =
    let wire = c.args.wire.now in
    let w : Works = works c.args.plan.now (g.W.Wire.meaning wire) in
    let b = c.args.batch in
    let s : Stock = g.B.Book.holds c.args.book.now in
    let r = c.args.self.now in
    let set = c.set_of-set.ensures.value in
    let a = c.in_ok-announcement.announcement in
    let ok = ok_cause _ _ _ c.in_ok-announcement.ensures in
    let enough = (releasable w r.number (room_of r) s b ok.0).enough in
    let small = announce-small (g.W.Wire.meaning wire) r.number a c.in_ok-announce.ensures.cases.cause in
    write_taken_lem s c.set_of-set.result a.result.amounts c.set_of-set.ensures.sized (rw set enough) small

pub release_batch-requires : goal.release_batch-requires
release_batch-requires g c =
    let w : Works = works c.args.plan.now (g.W.Wire.meaning c.args.wire.now) in
    let r = c.args.self.now in
    let ok = ok_cause _ _ _ c.in_ok-announcement.ensures in
    let may = releasable w r.number (room_of r) (g.B.Book.holds c.args.book.now) c.args.batch ok.0 in
    record { settled = may.settled; waiting = may.waiting }

pub returns : goal.returns
returns g c =
    let wire = c.args.wire.now in
    let m : Wire = g.W.Wire.meaning wire in
    let w : Works = works c.args.plan.now (g.W.Wire.meaning wire) in
    let b = c.args.batch in
    let r = c.args.self.now in
    let k = r.number in
    let s : Stock = g.B.Book.holds c.args.book.now in
    let t : Stock = g.B.Book.holds c.write_amounts.new.book in
    let set = c.set_of-set.ensures.value in
    let a = c.in_ok-announcement.announcement in
    let ok = ok_cause _ _ _ c.in_ok-announcement.ensures in
    let is : a ≡ announcement_of (room_of r) b = ok.1 in
    let told = c.in_ok-announce.ensures.cases in
    let values = ap (λ (x : Announcement). x.result.amounts) is in
    record {
      cases = record {
        taken = or_else-both _ _ ok.0 (ap (announce_cause m k) (sym is) ∙ told.cause);
        wire = told.after ∙ ap (with_announced m k) is;
        book = c.write_amounts.ensures.after ∙ ap (λ x. book_written x a.result.amounts t.spare s) set ∙ ap (λ l. book_written (set_of w b) l t.spare s) values;
        spare = rw set at c.write_amounts.ensures.spare;
        number = c.release_batch.ensures.number;
        room = c.release_batch.ensures.after;
      };
      choice = c.in_ok-announce.ensures.choice;
    }
