-- What a contract sees of the parts of an object that are read, and of an answer.
use Rattle.std.specs.Prelude.{◌≡◌, Option, Some, None, Result, Ok, Err, map}
use Rattle.lane_code.specs.Program.{work_of}
use Rattle.wg_object.specs.declared.coding.Head.{Head as HeadRead}
use Rattle.wg_object.specs.declared.coding.Kept.{Kept as KeptRead}
use Rattle.wg_object.specs.declared.coding.Tail.{Tail as TailRead}
use Rattle.wg_object.specs.declared.coding.DecodeError.{DecodeError}
use Rattle.wg_object.specs.declared.coding.DecodeError.TheVariants.{NotObject, Memory}
use Rattle.wg_object.specs.declared.object.Object.{Object}
use Rattle.wg_object.specs.Plain.{PlainObject, table_of}
use Rattle.wg_object.specs.View.{object_of}
use Rattle.wg_object.specs.Valid.{IsObject}
use Rattle.wg_object.specs.Reading.{Head, Kept, Tail}

abbrev pub head_of : HeadRead → Head
head_of h = record { kernel = h.kernel; width = h.width; params = h.params.items }

abbrev pub kept_of : KeptRead → Kept
kept_of k = record {
  tables = map table_of k.tables.items;
  locals = k.locals.items;
  privates = k.privates.items;
  columns = k.columns;
  slots = k.slots;
}

abbrev pub tail_of : TailRead → Tail
tail_of t = record { sites = t.sites.items; top = work_of t.top; sizes = t.sizes }

-- something was read, and it is this object, or no object
abbrev pub IsRead : Option Object → Option PlainObject → Type 0
IsRead found None = ⊥
IsRead None (Some o) = IsObject o → ⊥
IsRead (Some x) (Some o) = object_of x ≡ o

-- the answer is that object, or memory is wanted
abbrev pub Answers : PlainObject → Result Object DecodeError → Type 0
Answers o (Ok x) = object_of x ≡ o
Answers o (Err NotObject) = ⊥
Answers o (Err Memory) = Unit {0}
