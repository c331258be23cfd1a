-- The rounds end: each that adds something leaves fewer entries that do not vary.
use Rattle.std.proofs.Common.{◌≡◌, ℕ, zero, suc, ◌+◌, ◌<◌, ◌≤◌, Bool, true, false, ◌||◌, ◌&&◌, not, List, [], ◌∷◌}
use Rattle.std.proofs.Common.{length, map, set, replicate, slice_get, unwrap_or, if◌then◌else◌, refl, arith}
use Rattle.cl_model.specs.Tree.{Function, Program}
use Rattle.diverge.specs.declared.known.Entry.{Entry}
use Rattle.diverge.specs.Known.{Row, State, fresh, absent, entry_in, result_in, variable_at, result_at, grows}
use Rattle.diverge.specs.Known.{change_row, with_entry, with_result_entry}
use Rattle.diverge.specs.Rounds.{start, start_row, entries_of, round_limit, round, rounds}
use Rattle.diverge.specs.Marks.{IsSettled}
use Rattle.diverge.proofs.Kept.{Onward, Keeps, round_from}

-- one for an entry that does not vary; one where something has come to vary
abbrev pub lacks : Bool → ℕ
lacks true = 0
lacks false = 1

abbrev pub counts : Bool → ℕ
counts true = 1
counts false = 0

-- how many entries of variables do not vary, and how many of all
abbrev pub lacking : List Entry → ℕ
lacking [] = 0
lacking (e ∷ es) = lacks e.varies + lacking es

abbrev pub all_lacking : List Row → ℕ
all_lacking [] = 0
all_lacking (row ∷ rows) = (lacking row.variables + lacks row.result.varies) + all_lacking rows

grown_by : (old new : Bool) → (old ≡ true → new ≡ true) → lacks new + counts (new && not old) ≤ lacks old
grown_by true true h = omega arith
grown_by true false h = let wrong : false ≡ true = h refl in cc
grown_by false true h = omega arith
grown_by false false h = omega arith

absent_grows : (new : Bool) → counts (new && false) ≤ 0
absent_grows true = omega arith
absent_grows false = omega arith

entry_lacks : (es : List Entry) (x : ℕ) (e : Entry) → Onward (unwrap_or (slice_get es x) absent) e →
    lacking (set es x e) + counts (grows (unwrap_or (slice_get es x) absent) e) ≤ lacking es
entry_lacks [] x e h = let none = absent_grows e.varies in omega (arith, none)
entry_lacks (y ∷ es) zero e h = let one = grown_by y.varies e.varies h in omega (arith, one)
entry_lacks (y ∷ es) (suc x) e h = let more = entry_lacks es x e h in omega (arith, more)

variable_lacks : (f x : ℕ) (e : Entry) (rows : List Row) → Onward (entry_in (slice_get rows f) x) e →
    all_lacking (change_row f (with_entry x e) rows) + counts (grows (entry_in (slice_get rows f) x) e) ≤
    all_lacking rows
variable_lacks f x e [] h = let none = absent_grows e.varies in omega (arith, none)
variable_lacks zero x e (row ∷ rows) h = let one = entry_lacks row.variables x e h in omega (arith, one)
variable_lacks (suc f) x e (row ∷ rows) h = let more = variable_lacks f x e rows h in omega (arith, more)

result_lacks : (f : ℕ) (e : Entry) (rows : List Row) → Onward (result_in (slice_get rows f)) e →
    all_lacking (change_row f (with_result_entry e) rows) + counts (grows (result_in (slice_get rows f)) e) ≤
    all_lacking rows
result_lacks f e [] h = let none = absent_grows e.varies in omega (arith, none)
result_lacks zero e (row ∷ rows) h = let one = grown_by row.result.varies e.varies h in omega (arith, one)
result_lacks (suc f) e (row ∷ rows) h = let more = result_lacks f e rows h in omega (arith, more)

counts_or : (a b : Bool) → counts (a || b) ≤ counts a + counts b
counts_or true b = omega arith
counts_or false b = omega arith

keeps_below : (n : ℕ) → Keeps (λ s. all_lacking s.rows + counts s.grew ≤ n)
keeps_below n = record {
  variable = λ f x e s onward h. let one = variable_lacks f x e s.rows onward in let two =
      counts_or s.grew (grows (variable_at s f x) e) in omega (arith, one, two, h);
  result = λ f e s onward h. let one = result_lacks f e s.rows onward in let two =
      counts_or s.grew (grows (result_at s f) e) in omega (arith, one, two, h);
  fresh = λ s h. omega (arith, h);
}

pub fewer : (program : Program) (s : State) → all_lacking (round program s).rows + counts (round program s).grew ≤
    all_lacking s.rows
fewer program s = round_from (λ t. all_lacking t.rows + counts t.grew ≤ all_lacking s.rows)
    (keeps_below (all_lacking s.rows)) program s (omega arith)

settled_or : (program : Program) (limit : ℕ) (t : State) (b : Bool) → t.grew ≡ b →
    all_lacking t.rows + counts b ≤ limit → ((all_lacking t.rows < limit) → (rounds program limit t).grew ≡ false)
    → (if b then rounds program limit t else t).grew ≡ false
settled_or program limit t true h le more = more (omega (arith, le))
settled_or program limit t false h le more = h

settles : (program : Program) (limit : ℕ) (s : State) → all_lacking s.rows < limit →
    (rounds program limit s).grew ≡ false
settles program zero s lt = absurd (omega (arith, lt))
settles program (suc limit) s lt =
    let t = round program s in
    let less = fewer program s in
    settled_or program limit t t.grew refl (omega (arith, lt, less)) (settles program limit t)

fresh_lacking : (n : ℕ) → lacking (replicate n fresh) ≡ n
fresh_lacking zero = refl
fresh_lacking (suc n) = let one = fresh_lacking n in omega (arith, one)

pub start_lacking : (list : List Function) → all_lacking (map start_row list) ≤ entries_of list
start_lacking [] = omega arith
start_lacking (f ∷ list) =
    let one = fresh_lacking (length f.variables) in
    let more = start_lacking list in
    omega (arith, one, more)

-- the last round added nothing
pub is_settled : (program : Program) → IsSettled program
is_settled program = let few =
    start_lacking program.functions in settles program (round_limit program) (start program) (omega (arith, few))
