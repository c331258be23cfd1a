-- The parts of an object put together: the program of a group, and the text.
use Rattle.std.proofs.Common.{◌≡◌, ◌≤◌, ◌↔◌, ℕ, List, [], ◌∷◌, ◌++◌, map, true, Option, Some, None, Global}
use Rattle.std.proofs.Common.{refl, sym, ap, subst, ◌∙◌, append_assoc}
use Rattle.std.specs.Prelude.{sum, is_some, IsTrue, IsSome, IfSome}
use Rattle.std.specs.declared.vec.Vec.{Vec}
use Rattle.wg_num.specs.declared.types.Width.{Width}
use Rattle.cl_model.specs.declared.program.Table.{Table}
use Rattle.lane_code.specs.declared.program.GroupProgram.{GroupProgram}
use Rattle.lane_code.specs.declared.parts.GroupParts.{GroupParts}
use Rattle.lane_code.specs.Parts.{parts_of}
use Rattle.lane_code.specs.Program.{Plain, is_group_program}
use Rattle.lane_code.specs.View.{plain_of}
use Rattle.wg_object.specs.declared.object.Object.{Object}
use Rattle.wg_object.specs.Limits.{local_most, private_most}
use Rattle.wg_object.specs.Plain.{PlainTable, PlainObject, table_of, object_with, object_in, group_in}
use Rattle.wg_object.specs.View.{object_of}
use Rattle.wg_object.specs.Text.{head_text, memory_text, tail_text, object_text}
use Rattle.wg_object.specs.Valid.{IsByte, IsFour, IsEight, IsList, IsWork, IsPlace, IsKind, IsTable, AreSizes}
use Rattle.wg_object.specs.Valid.{IsObject}

-- ---- as `lane_code` sees it

bytes_of_tables : (tables : List Table) →
    map (λ (t : PlainTable). t.bytes) (map table_of tables) ≡ map (λ (t : Table). t.bytes.items) tables
bytes_of_tables [] = refl
bytes_of_tables (t ∷ tables) = ap (λ (l : List (List ℕ)). t.bytes.items ∷ l) (bytes_of_tables tables)

pub parts_are : (p : GroupParts) (sizes : Option (List ℕ)) → group_in (object_in p sizes) ≡ parts_of p
parts_are p sizes =
    ap (λ (t : List (List ℕ)). let q : Plain = record (parts_of p) { tables = t } in q)
    (bytes_of_tables p.tables.items)

pub program_is : (g : GroupProgram) (sizes : Option (List ℕ)) → group_in (object_with g sizes) ≡ plain_of g
program_is g sizes =
    ap (λ (t : List (List ℕ)). let q : Plain = record (plain_of g) { tables = t } in q)
    (bytes_of_tables g.tables.items)

-- the program of parts says what they say
pub made_of_parts : (g : GroupProgram) (p : GroupParts) (sizes : Option (List ℕ)) → g.kernel ≡ p.kernel →
    g.width ≡ p.width → plain_of g ≡ parts_of p → g.tables ≡ p.tables → object_with g sizes ≡ object_in p sizes
made_of_parts g p sizes kernel width same tables =
    let made : List ℕ → Width → Vec Table Global → Plain → PlainObject = λ k w t q. record {
      kernel = k;
      width = w;
      params = q.params;
      tables = map table_of t.items;
      locals = q.locals;
      privates = q.privates;
      columns = q.columns;
      slots = q.slots;
      sites = q.sites;
      top = q.top;
      sizes = sizes;
    } in
    ap (λ (k : List ℕ). made k g.width g.tables (plain_of g)) kernel ∙
    ap (λ (w : Width). made p.kernel w g.tables (plain_of g)) width ∙
    ap (λ (t : Vec Table Global). made p.kernel p.width t (plain_of g)) tables ∙
    ap (λ (q : Plain). made p.kernel p.width p.tables q) same

-- ---- what an object is made from

pub object_same : (found : Option Object) (g : GroupProgram) (sizes : Option (List ℕ)) (o : PlainObject) →
    IfSome found (λ x. x.group ≡ g) → IfSome found (λ x. x.sizes ≡ sizes) → object_with g sizes ≡ o →
    IfSome found (λ x. object_of x ≡ o)
object_same None g sizes o group is e = tt
object_same (Some x) g sizes o group is e =
    ap (λ (h : GroupProgram). object_with h x.sizes) group ∙ ap (λ (s : Option (List ℕ)). object_with g s) is ∙ e

-- the parts of an object are a program, and its arrays are within the limits
pub fits_together : (p : GroupParts) (sizes : Option (List ℕ)) → IsObject (object_in p sizes) →
    is_group_program (parts_of p) ≡ true
fits_together p sizes h = subst (λ (q : Plain). is_group_program q ≡ true) (parts_are p sizes) h.program

pub is_made : (found : Option Object) (g : GroupProgram) (p : GroupParts) (sizes : Option (List ℕ)) →
    (IsTrue (is_some found) ↔ ((sum g.locals.items ≤ local_most) × (sum g.privates.items ≤ private_most))) →
    plain_of g ≡ parts_of p → IsObject (object_in p sizes) → IsSome found
is_made found g p sizes some same h =
    let locals : sum g.locals.items ≤ local_most =
    subst (λ (q : Plain). sum q.locals ≤ local_most) (sym same) h.local_limit in
    let privates : sum g.privates.items ≤ private_most =
    subst (λ (q : Plain). sum q.privates ≤ private_most) (sym same) h.private_limit in
    some.1 (locals, privates)

-- ---- the text of an object

-- an object is one by its type, where its numbers have bytes
pub record HasRanges (o : PlainObject) : Type 0 where
  pub kernel : IsList IsByte o.kernel
  pub params : IsList IsKind o.params
  pub tables : IsList IsTable o.tables
  pub locals : IsList IsEight o.locals
  pub privates : IsList IsEight o.privates
  pub columns : IsFour o.columns
  pub slots : IsFour o.slots
  pub sites : IsList IsPlace o.sites
  pub top : IsWork o.top
  pub sizes : AreSizes o.sizes

pub is_object : (x : Object) → HasRanges (object_of x) → IsObject (object_of x)
is_object x h = record {
  kernel = h.kernel;
  params = h.params;
  tables = h.tables;
  locals = h.locals;
  privates = h.privates;
  columns = h.columns;
  slots = h.slots;
  sites = h.sites;
  top = h.top;
  sizes = h.sizes;
  program = subst (λ (q : Plain). is_group_program q ≡ true) (sym (program_is x.group x.sizes)) x.group.valid;
  local_limit = x.locals;
  private_limit = x.privates;
}

-- its three parts one behind the other
pub whole_text : (o : PlainObject) (empty head kept tail : List ℕ) → empty ≡ [] → head ≡ empty ++ head_text o →
    kept ≡ head ++ memory_text o → tail ≡ kept ++ tail_text o → tail ≡ object_text o
whole_text o empty head kept tail none a b c =
    let first : head ≡ head_text o = a ∙ ap (λ (t : List ℕ). t ++ head_text o) none in
    c ∙ ap (λ (t : List ℕ). t ++ tail_text o) (b ∙ ap (λ (t : List ℕ). t ++ memory_text o) first) ∙
    append_assoc (head_text o) (memory_text o) (tail_text o)
