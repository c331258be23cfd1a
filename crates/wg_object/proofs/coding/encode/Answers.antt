use Rattle.std.proofs.Common.{rules}
use Rattle.wg_object.specs.View.{object_of}
use Rattle.wg_object.proofs.Together.{is_object, whole_text}
use Rattle.wg_object.proofs.coding.encode.Goals as goal

pub returns : goal.returns
returns c =
    let head = c.in_ok-put_head.ensures in
    let kept = c.in_ok-put_kept.ensures in
    let tail = c.in_ok-put_tail.ensures in
    record {
      object = is_object c.args.object.now (record {
        kernel = head.kernel;
        params = head.params;
        tables = kept.tables;
        locals = kept.locals;
        privates = kept.privates;
        columns = kept.columns;
        slots = kept.slots;
        sites = tail.sites;
        top = tail.top;
        sizes = tail.sizes;
      });
      text = whole_text (object_of c.args.object.now) c.new-out.result.items c.put_head.new.out.items
          c.put_kept.new.out.items c.put_tail.new.out.items (search rules) head.put kept.put tail.put;
    }
