-- Inlined texts of programs: which variables cross, in which order they are declared, and whose scopes meet.
use Rattle.std.specs.Prelude.{◌≡◌, ℕ, [], ◌∷◌, Some, None}
use Rattle.std.specs.Prelude.{true, false}
use Rattle.wg_num.specs.declared.types.IntType.TheVariants as t
use Rattle.wg_num.specs.declared.types.Bin.TheVariants as bin
use Rattle.cl_model.specs.declared.program.Root.TheVariants as root
use Rattle.cl_model.specs.declared.program.Query.TheVariants as query
use Rattle.cl_model.specs.Tree.{Apply, Change, Update, Call, none, pair, Declare, Do, Block, If, Loop, Break, Return}
use Rattle.cl_model.specs.Tree.{Barrier, empty, Program}
use Rattle.examples_model.specs.Terms.{number, named, long, int, ints, ask, put, one_of, listed, global_ints, an_int}
use Rattle.examples_model.specs.Terms.{kernel, program}
use Rattle.examples_model.specs.Barriers.{scan, two}
use Rattle.kir.specs.Tree.{Variable}
use Rattle.kir.specs.Inlined.{variables_of, crossing_of, scopes_of}
use Rattle.examples_kir.specs.Terms.{own}

-- all variables of a prefix sum cross, in the order of their declarations
abbrev pub ScanCrosses : Type 0
ScanCrosses = crossing_of scan ≡ own 0 0 ∷ own 0 1 ∷ own 0 2 ∷ own 0 3 ∷ []

-- int r = 0; while (1) { if (get_local_id(0) == r) break; r++; } barrier(..); a[get_local_id(0)] = r;
abbrev pub exit : Program
exit =
    program (kernel 1 (global_ints 0 ∷ an_int ∷ []) [] (
    Declare 1 (Some (number 0))
    ∷ Loop 0 true (Some (number 1)) None (Block (listed (
    If 1 (ints bin.Eq (int (ask query.LocalId)) (named 1)) (one_of (Break 2)) empty
    ∷ Do (Apply (Change 1 bin.Add t.Int t.Int true) (pair (named 1) (number 1)))
    ∷ []
    )))
    ∷ Barrier 3
    ∷ put 4 (root.Param 0) (long (ask query.LocalId)) (named 1)
    ∷ []
    ) ∷ []) 0

abbrev pub ExitCrosses : Type 0
ExitCrosses = crossing_of exit ≡ own 0 0 ∷ own 0 1 ∷ []

-- int l = get_local_id(0); { int x = l + 1; barrier(..); a[l] = x; } { int y = l * 2; barrier(..); a[l] += y; } int z
-- = 0;
abbrev pub blocks : Program
blocks =
    program (kernel 1 (global_ints 0 ∷ an_int ∷ an_int ∷ an_int ∷ an_int ∷ []) [] (
    Declare 1 (Some (int (ask query.LocalId)))
    ∷ Block (listed (Declare 2 (Some (ints bin.Add (named 1) (number 1))) ∷ Barrier 0 ∷
    put 1 (root.Param 0) (long (named 1)) (named 2) ∷ []))
    ∷ Block (listed (Declare 3 (Some (ints bin.Mul (named 1) (number 2))) ∷ Barrier 2 ∷
    Do (Update 3 t.Int (root.Param 0) bin.Add t.Int t.Int false (long (named 1)) (named 3)) ∷ []))
    ∷ Declare 4 (Some (number 0))
    ∷ []
    ) ∷ []) 0

-- z does not cross, though its scope holds both barriers before its declaration; no block has x and y, and each has z
abbrev pub BlocksApart : Type 0
BlocksApart =
    (crossing_of blocks ≡ own 0 0 ∷ own 0 1 ∷ own 0 2 ∷ own 0 3 ∷ [])
    × (scopes_of blocks
    ≡ (own 0 0 ∷ own 0 1 ∷ own 0 4 ∷ [])
    ∷ (own 0 2 ∷ own 0 0 ∷ own 0 1 ∷ own 0 4 ∷ [])
    ∷ (own 0 3 ∷ own 0 0 ∷ own 0 1 ∷ own 0 4 ∷ [])
    ∷ [])

-- a variable behind the calls with these sites, of the function that is called
abbrev pub called : ℕ → ℕ → Variable
called site n = record { calls = site ∷ []; function = 0; number = n }

-- in the kernel with two calls, those of the first call come before the variable that it initialises
abbrev pub CalleeFirst : Type 0
CalleeFirst =
    variables_of two
    ≡ own 1 0 ∷ own 1 1 ∷ called 5 0 ∷ called 5 1 ∷ own 1 2 ∷ called 8 0 ∷ called 8 1 ∷ own 1 3 ∷ []

-- the parameters of the call cross, since its body holds a barrier behind them; the last variable has no barrier
-- behind it. A called function's block stands in the kernel's, so its scopes meet those of the kernel's variables,
-- and not those of the other call
abbrev pub CalleeWithin : Type 0
CalleeWithin =
    (crossing_of two ≡ own 1 0 ∷ own 1 1 ∷ called 5 0 ∷ called 5 1 ∷ own 1 2 ∷ called 8 0 ∷ called 8 1 ∷ [])
    × (scopes_of two
    ≡ (own 1 0 ∷ own 1 1 ∷ own 1 2 ∷ own 1 3 ∷ [])
    ∷ (called 5 0 ∷ called 5 1 ∷ own 1 0 ∷ own 1 1 ∷ own 1 2 ∷ own 1 3 ∷ [])
    ∷ (called 8 0 ∷ called 8 1 ∷ own 1 0 ∷ own 1 1 ∷ own 1 2 ∷ own 1 3 ∷ [])
    ∷ [])

-- int f() { int v = 1; return v; } .. do { int x = 0; barrier(..); } while (f()): in the text the body comes before
-- the test. A cut before or after the body stands outside it, and in no scope of the called function
abbrev pub repeat : Program
repeat =
    program (
    record {
      parameters = 0;
      result = Some t.Int;
      variables = an_int ∷ [];
      arrays = [];
      body = listed (Declare 0 (Some (number 1)) ∷ Return 0 (Some (named 0)) ∷ []);
    }
    ∷ kernel 1 (global_ints 0 ∷ an_int ∷ []) [] (
    Loop 1 false (Some (Call 2 0 [] none)) None (Block (listed (Declare 1 (Some (number 0)) ∷ Barrier 3 ∷ [])))
    ∷ []
    )
    ∷ []
    ) 1

abbrev pub DoBodyFirst : Type 0
DoBodyFirst =
    (variables_of repeat ≡ own 1 0 ∷ own 1 1 ∷ called 2 0 ∷ []) × (crossing_of repeat ≡ own 1 0 ∷ own 1 1 ∷ [])
