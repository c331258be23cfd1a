-- What was written is read again: places, kinds, tables and whole objects.
use Rattle.std.proofs.Common.{◌≡◌, ℕ, List, [], ◌∷◌, ◌++◌, length, codes}
use Rattle.std.proofs.Common.{Option, Some, None, refl, sym, ap, ◌∙◌, append_assoc, arith}
use Rattle.std.proofs.lemmas.List.{drop_at}
use Rattle.std.specs.Int as int
use Rattle.wg_num.specs.declared.types.Place.{Place}
use Rattle.wg_num.specs.declared.types.Width.{Width}
use Rattle.wg_num.specs.declared.types.Width.TheVariants as width
use Rattle.cl_model.specs.declared.program.Space.{Space}
use Rattle.cl_model.specs.declared.program.Space.TheVariants as space
use Rattle.cl_model.specs.declared.program.VarKind.{VarKind}
use Rattle.cl_model.specs.declared.program.VarKind.TheVariants.{Scalar as ScalarKind, Pointer}
use Rattle.lane_code.specs.Program.{Work}
use Rattle.wg_object.specs.Numbers.{number_of_width, width_of_number, number_of_space, space_of_number, number_of_type}
use Rattle.wg_object.specs.Plain.{PlainTable, PlainObject}
use Rattle.wg_object.specs.Text.{four, eight, word_text, list_text, root_text, place_text, kind_text}
use Rattle.wg_object.specs.Text.{table_text, sizes_text, work_text, head_text, memory_text, tail_text, object_text}
use Rattle.wg_object.specs.Valid.{IsEight, IsPlace, IsKind, IsTable, AreSizes, IsObject}
use Rattle.wg_object.specs.Reading.{◌>>=◌, eight_at, place_at, pointer_at, kind_at, table_at}
use Rattle.wg_object.specs.Reading.{three_numbers_at, sizes_at, work_at, Head, Kept, Tail, head_at, kept_at, tail_at}
use Rattle.wg_object.specs.Reading.{object_from, object_at}
use Rattle.wg_object.proofs.Again.{four_again, eight_again, type_again, root_again}
use Rattle.wg_object.proofs.Lists.{HasFirst, IsReadAgain, list_again, word_again}
use Rattle.wg_object.proofs.NodesAgain.{work_again, bind_some, some_is}

width_back : (w : Width) → width_of_number (number_of_width w) ≡ w
width_back width.W1 = refl
width_back width.W4 = refl
width_back width.W8 = refl
width_back width.W16 = refl

space_back : (s : Space) → space_of_number (number_of_space s) ≡ s
space_back space.Global = refl
space_back space.Constant = refl
space_back space.Local = refl
space_back space.Private = refl

-- ---- first bytes

four_first : (n : ℕ) → HasFirst (four n)
unfolding four
four_first n = record { byte = int.byte_at 0 n; others = int.bytes_low_first 1 3 n; is = refl }

eight_first : (n : ℕ) → HasFirst (eight n)
unfolding eight
eight_first n = record { byte = int.byte_at 0 n; others = int.bytes_low_first 1 7 n; is = refl }

front_first : (a b : List ℕ) → HasFirst a → HasFirst (a ++ b)
front_first a b f = record { byte = f.byte; others = f.others ++ b; is = ap (λ (t : List ℕ). t ++ b) f.is }

-- ---- numbers, places, kinds

eights_read : IsReadAgain eight_at eight IsEight
eights_read = record { again = eight_again; first = eight_first }

place_again : (p : Place) (rest : List ℕ) → IsPlace p → place_at (place_text p ++ rest) ≡ (p, rest)
unfolding place_at
place_again p rest h =
    ap place_at (append_assoc (four p.line) (four p.column) rest) ∙ rw (
      four_again p.line (four p.column ++ rest) h.0,
      four_again p.column rest h.1,
    ) refl

pub places_read : IsReadAgain place_at place_text IsPlace
places_read = record {
  again = place_again;
  first = λ p. front_first (four p.line) (four p.column) (four_first p.line);
}

kind_again : (k : VarKind) (rest : List ℕ) → IsKind k → kind_at (kind_text k ++ rest) ≡ (k, rest)
unfolding kind_at pointer_at
kind_again (ScalarKind t) rest h = rw (type_again t rest) refl
kind_again (Pointer s element root) rest h =
    rw (space_back s, type_again element (root_text root ++ rest), root_again root rest h) refl

kind_first : (k : VarKind) → HasFirst (kind_text k)
kind_first (ScalarKind t) = record { byte = 0; others = number_of_type t ∷ []; is = refl }
kind_first (Pointer s element root) = record {
  byte = 1;
  others = number_of_space s ∷ (number_of_type element ∷ root_text root);
  is = refl;
}

kinds_read : IsReadAgain kind_at kind_text IsKind
kinds_read = record { again = kind_again; first = kind_first }

-- ---- tables

table_again : (t : PlainTable) (rest : List ℕ) → IsTable t → table_at (table_text t ++ rest) ≡ (t, rest)
unfolding table_at
table_again t rest h =
    let content = word_text t.bytes ++ rest in
    let behind_place = place_text t.place ++ content in
    let behind_dims = list_text eight t.dims ++ behind_place in
    let regroup : table_text t ++ rest ≡
    word_text t.name ++ (number_of_space t.space ∷ (number_of_type t.element ∷ behind_dims)) = simp append_assoc in
    ap table_at regroup ∙ rw (
      word_again t.name (number_of_space t.space ∷ (number_of_type t.element ∷ behind_dims)) h.name,
      space_back t.space,
      type_again t.element behind_dims,
      list_again eight_at eight IsEight eights_read t.dims behind_place h.dims,
      place_again t.place content h.place,
      word_again t.bytes rest h.bytes,
    ) refl

table_first : (t : PlainTable) → HasFirst (table_text t)
table_first t =
    front_first (word_text t.name) _ (front_first (eight (length t.name)) t.name (eight_first (length t.name)))

tables_read : IsReadAgain table_at table_text IsTable
tables_read = record { again = table_again; first = table_first }

-- ---- sizes

pub sizes_again : (sizes : Option (List ℕ)) → AreSizes sizes → sizes_at (sizes_text sizes) ≡ sizes
unfolding sizes_at three_numbers_at
sizes_again None h = refl
sizes_again (Some (x ∷ y ∷ z ∷ [])) h =
    rw (
      eight_again x (eight y ++ (eight z ++ [])) h.1.0,
      eight_again y (eight z ++ []) h.1.1.0,
      eight_again z [] h.1.1.1.0,
    ) refl
sizes_again (Some []) h = absurd cc
sizes_again (Some (x ∷ [])) h = absurd (omega (arith, h.0))
sizes_again (Some (x ∷ y ∷ [])) h = absurd (omega (arith, h.0))
sizes_again (Some (x ∷ y ∷ z ∷ w ∷ more)) h = absurd (omega (arith, h.0))

-- ---- objects

abbrev pub head_of : PlainObject → Head
head_of o = record { kernel = o.kernel; width = o.width; params = o.params }

abbrev pub kept_of : PlainObject → Kept
kept_of o = record {
  tables = o.tables;
  locals = o.locals;
  privates = o.privates;
  columns = o.columns;
  slots = o.slots;
}

pub head_again : (o : PlainObject) (rest : List ℕ) → IsObject o → head_at (head_text o ++ rest) ≡ (head_of o, rest)
unfolding head_at
head_again o rest h =
    let params = list_text kind_text o.params ++ rest in
    let regroup : head_text o ++ rest ≡
    codes "WGO1" ++ (word_text o.kernel ++ (number_of_width o.width ∷ params)) = simp append_assoc in
    ap head_at regroup ∙ rw (
      drop_at (codes "WGO1") (word_text o.kernel ++ (number_of_width o.width ∷ params)) 4 refl,
      word_again o.kernel (number_of_width o.width ∷ params) h.kernel,
      width_back o.width,
      list_again kind_at kind_text IsKind kinds_read o.params rest h.params,
    ) refl

pub kept_again : (o : PlainObject) (rest : List ℕ) → IsObject o → kept_at (memory_text o ++ rest) ≡ (kept_of o, rest)
unfolding kept_at
kept_again o rest h =
    let slots = four o.slots ++ rest in
    let columns = four o.columns ++ slots in
    let privates = list_text eight o.privates ++ columns in
    let locals = list_text eight o.locals ++ privates in
    let regroup : memory_text o ++ rest ≡ list_text table_text o.tables ++ locals = simp append_assoc in
    ap kept_at regroup ∙ rw (
      list_again table_at table_text IsTable tables_read o.tables locals h.tables,
      list_again eight_at eight IsEight eights_read o.locals privates h.locals,
      list_again eight_at eight IsEight eights_read o.privates columns h.privates,
      four_again o.columns slots h.columns,
      four_again o.slots rest h.slots,
    ) refl

abbrev tail_with : List Place → Work × List ℕ → Tail
tail_with sites top = record { sites = sites; top = top.0; sizes = sizes_at top.1 }

-- what is read of the text of an object is that object, or its nodes are too deep
pub object_again : (d : ℕ) (o y : PlainObject) → IsObject o → object_at d (object_text o) ≡ Some y → y ≡ o
unfolding object_at tail_at
object_again d o y h e =
    let behind = work_text o.top ++ sizes_text o.sizes in
    let head = head_again o (memory_text o ++ tail_text o) h in
    let kept = kept_again o (tail_text o) h in
    let places = list_again place_at place_text IsPlace places_read o.sites behind h.sites in
    let tail : Option Tail = work_at d behind >>= λ top. Some (tail_with o.sites top) in
    let whole : Tail → PlainObject = object_from (head_of o) (kept_of o) in
    let plain : (tail >>= λ t. Some (whole t)) ≡ Some y = rw (head, kept, places) at e in
    let a = bind_some tail (λ t. Some (whole t)) y plain in
    let b = bind_some (work_at d behind) (λ top. Some (tail_with o.sites top)) a.0 a.1 in
    let top = work_again o.top h.top d (sizes_text o.sizes) b.0 b.1 in
    let tail_is : a.0 ≡ record { sites = o.sites; top = o.top; sizes = o.sizes } =
    sym (some_is (tail_with o.sites b.0) a.0 b.2) ∙ ap (tail_with o.sites) top ∙
    ap (λ (s : Option (List ℕ)). record { sites = o.sites; top = o.top; sizes = s }) (sizes_again o.sizes h.sizes) in
    sym (some_is (whole a.0) y a.2) ∙ ap whole tail_is
