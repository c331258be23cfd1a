-- Kernels without barriers.
use Rattle.std.specs.Prelude.{◌≡◌, ℕ, pos, neg_ℤ, List, [], ◌∷◌, Some, None}
use Rattle.std.specs.Prelude.{true, false}
use Rattle.wg_num.specs.declared.types.IntType.TheVariants as t
use Rattle.wg_num.specs.declared.types.Bin.TheVariants as bin
use Rattle.cl_model.specs.declared.program.Space.TheVariants as space
use Rattle.cl_model.specs.declared.program.Root.TheVariants as root
use Rattle.cl_model.specs.declared.program.VarKind.TheVariants as kind
use Rattle.cl_model.specs.declared.program.Query.TheVariants as query
use Rattle.cl_model.specs.declared.launch.Bound.TheVariants as bound
use Rattle.cl_model.specs.Tree.{Literal, Binary, Convert, Second, Change, Load, Store, Apply, Update, Choose, Call}
use Rattle.cl_model.specs.Tree.{none, single, pair, truth_of, decided, Do, Declare, Fill, Block, If, Loop, Switch}
use Rattle.cl_model.specs.Tree.{Break, Continue, Return, empty, also, no_arm, arm, Program}
use Rattle.cl_model.specs.Sizes.{Launch}
use Rattle.examples_model.specs.Terms.{number, named, long, int, ints, ask, ask_at, element, put, set, one_of, listed}
use Rattle.examples_model.specs.Terms.{global_ints, an_int, private_ints, kernel, program, line, buffer}
use Rattle.examples_model.specs.Play.{play, Finished, Faulted}

-- __kernel void inc(__global int *a) { a[get_global_id(0)] = a[get_global_id(0)] + 1; }
abbrev pub increment : Program
increment =
    program (kernel 1 (global_ints 0 ∷ []) [] (put 0 (root.Param 0) (long (ask query.GlobalId))
    (ints bin.Add (element 1 (root.Param 0) (long (ask query.GlobalId))) (number 1)) ∷ []) ∷ []) 0

abbrev pub Increments : Type 0
Increments = play 100 increment (line 4 2 (bound.Buffer 0 ∷ []) (16 ∷ [])) (buffer (1 ∷ 2 ∷ 3 ∷ 4 ∷ []) ∷ []) ≡
    Finished (buffer (2 ∷ 3 ∷ 4 ∷ 5 ∷ []) ∷ [])

-- the sum of an int wraps: 2147483647 + 1 and -1 + 1
abbrev pub Wraps : Type 0
Wraps = play 100 increment (line 2 2 (bound.Buffer 0 ∷ []) (8 ∷ [])) (buffer (2147483647 ∷ 4294967295 ∷ []) ∷ []) ≡
    Finished (buffer (2147483648 ∷ 0 ∷ []) ∷ [])

-- an item that writes behind its buffer: a[get_global_id(0) + 1] = 0, on two groups of two, ends with the fault of
-- item 3
abbrev pub past : Program
past =
    program (kernel 1 (global_ints 0 ∷ []) []
    (put 7 (root.Param 0) (long (ints bin.Add (int (ask query.GlobalId)) (number 1))) (number 0) ∷ []) ∷ []) 0

abbrev pub Faults : Type 0
Faults = play 100 past (line 4 2 (bound.Buffer 0 ∷ []) (16 ∷ [])) (buffer (1 ∷ 2 ∷ 3 ∷ 4 ∷ []) ∷ []) ≡ Faulted 3 7

-- a negative element is out of range as well
abbrev pub before_first : Program
before_first =
    program (kernel 1 (global_ints 0 ∷ []) [] (put 7 (root.Param 0) (Apply (Literal (neg_ℤ (pos 1)) t.Long) none)
    (number 0) ∷ []) ∷ []) 0

abbrev pub FaultsBefore : Type 0
FaultsBefore = play 100 before_first (line 1 1 (bound.Buffer 0 ∷ []) (4 ∷ [])) (buffer (1 ∷ []) ∷ []) ≡ Faulted 0 7

-- int l = get_local_id(0); int s = 0; int i; for (i = 0; i < l; i++) s += l; a[l] = s;
abbrev pub squares : Program
squares =
    program (kernel 1 (global_ints 0 ∷ an_int ∷ an_int ∷ an_int ∷ []) [] (
    Declare 1 (Some (int (ask query.LocalId)))
    ∷ Declare 2 (Some (number 0))
    ∷ Declare 3 None
    ∷ set 3 (number 0)
    ∷ Loop 0 true (Some (ints bin.Lt (named 3) (named 1)))
    (Some (Apply (Change 3 bin.Add t.Int t.Int true) (pair (named 3) (number 1))))
    (Do (Apply (Change 2 bin.Add t.Int t.Int false) (pair (named 2) (named 1))))
    ∷ put 1 (root.Param 0) (long (named 1)) (named 2)
    ∷ []
    ) ∷ []) 0

abbrev pub Squares : Type 0
Squares = play 400 squares (line 4 4 (bound.Buffer 0 ∷ []) (16 ∷ [])) (buffer (0 ∷ 0 ∷ 0 ∷ 0 ∷ []) ∷ []) ≡
    Finished (buffer (0 ∷ 1 ∷ 4 ∷ 9 ∷ []) ∷ [])

-- switch (i) { case 1: s += 1; case 2: s += 2; break; default: s = 9; } a[i] = s;
abbrev pub switches : Program
switches =
    program (kernel 1 (global_ints 0 ∷ an_int ∷ an_int ∷ []) [] (
    Declare 1 (Some (int (ask query.GlobalId)))
    ∷ Declare 2 (Some (number 0))
    ∷ Switch 0 (named 1) (arm (pos 1 ∷ []) false
    (one_of (Do (Apply (Change 2 bin.Add t.Int t.Int false) (pair (named 2) (number 1)))))
    (arm (pos 2 ∷ []) false (also (Do (Apply (Change 2 bin.Add t.Int t.Int false) (pair (named 2) (number 2))))
    (one_of (Break 1)))
    (arm [] true (one_of (set 2 (number 9))) no_arm)))
    ∷ put 2 (root.Param 0) (long (named 1)) (named 2)
    ∷ []
    ) ∷ []) 0

abbrev pub Switches : Type 0
Switches = play 400 switches (line 4 4 (bound.Buffer 0 ∷ []) (16 ∷ [])) (buffer (0 ∷ 0 ∷ 0 ∷ 0 ∷ []) ∷ []) ≡
    Finished (buffer (9 ∷ 3 ∷ 2 ∷ 9 ∷ []) ∷ [])

-- two parameters with one buffer name one object: b[4 * i + 1] = 1 on bytes, then a[i] += 1 on ints
abbrev pub shares : Program
shares =
    program (kernel 2 (global_ints 0 ∷ kind.Pointer space.Global t.Uchar (root.Param 1) ∷ an_int ∷ []) [] (
    Declare 2 (Some (int (ask query.GlobalId)))
    ∷ Do (Apply (Store 0 t.Uchar (root.Param 1))
    (pair (long (ints bin.Add (ints bin.Mul (number 4) (named 2)) (number 1)))
    (Apply (Convert t.Uchar) (single (number 1)))))
    ∷ Do (Update 1 t.Int (root.Param 0) bin.Add t.Int t.Int false (long (named 2)) (number 1))
    ∷ []
    ) ∷ []) 0

abbrev pub Shares : Type 0
Shares = play 200 shares (line 2 2 (bound.Buffer 0 ∷ bound.Buffer 0 ∷ []) (8 ∷ [])) (buffer (0 ∷ 10 ∷ []) ∷ []) ≡
    Finished (buffer (257 ∷ 267 ∷ []) ∷ [])

-- if (i < n && a[i] > 0) a[i] = 0; with n = 3: the right part is not evaluated where i is 3, so nothing faults on 12
-- bytes
abbrev pub some_cleared : Program
some_cleared =
    program (kernel 2 (global_ints 0 ∷ an_int ∷ an_int ∷ []) [] (
    Declare 2 (Some (int (ask query.GlobalId)))
    ∷ If 0 (Choose 1 (ints bin.Lt (named 2) (named 1))
    (truth_of (ints bin.Gt (element 2 (root.Param 0) (long (named 2))) (number 0))) (decided false))
    (one_of (put 3 (root.Param 0) (long (named 2)) (number 0))) empty
    ∷ []
    ) ∷ []) 0

abbrev pub SomeCleared : Type 0
SomeCleared = play 300 some_cleared (line 4 4 (bound.Buffer 0 ∷ bound.Value (pos 3) ∷ []) (12 ∷ []))
    (buffer (5 ∷ 4294967295 ∷ 2 ∷ []) ∷ []) ≡ Finished (buffer (0 ∷ 4294967295 ∷ 0 ∷ []) ∷ [])

-- int f(int n, __global int *p) { int t[3] = {7, 8}; for (;;) { if (n == 2) return t[1] + p[0]; if (n == 1) { n++;
-- continue; } do n++; while (0); } } a[1] = f(0, a + 1), f(1, a);
abbrev pub calls : Program
calls =
    program (
    record {
      parameters = 2;
      result = Some t.Int;
      variables = an_int ∷ global_ints 1 ∷ [];
      arrays = private_ints 3 ∷ [];
      body = listed (
          Fill 0 0 (pair (number 7) (number 8))
          ∷ Loop 1 true None None (Block (listed (
          If 2 (ints bin.Eq (named 0) (number 2))
          (one_of (Return 3 (Some (ints bin.Add (element 4 (root.Private 0) (long (number 1)))
          (element 5 (root.Param 1) (named 1)))))) empty
          ∷ If 6 (ints bin.Eq (named 0) (number 1))
          (one_of (Block (listed (Do (Apply (Change 0 bin.Add t.Int t.Int true) (pair (named 0) (number 1))) ∷
          Continue 7 ∷ [])))) empty
          ∷ Loop 8 false (Some (number 0)) None
          (Do (Apply (Change 0 bin.Add t.Int t.Int true) (pair (named 0) (number 1))))
          ∷ []
          )))
          ∷ []
          );
    }
    ∷ kernel 1 (global_ints 0 ∷ []) [] (
    put 9 (root.Param 0) (long (number 1)) (Apply Second (pair
    (Call 10 0 (None ∷ Some (root.Param 0) ∷ [])
    (pair (number 0) (Apply (Binary bin.Add t.Long) (pair (named 0) (long (number 1))))))
    (Call 11 0 (None ∷ Some (root.Param 0) ∷ []) (pair (number 1) (named 0)))))
    ∷ []
    )
    ∷ []
    ) 1

abbrev pub Calls : Type 0
Calls = play 300 calls (line 1 1 (bound.Buffer 0 ∷ []) (8 ∷ [])) (buffer (100 ∷ 200 ∷ []) ∷ []) ≡
    Finished (buffer (100 ∷ 108 ∷ []) ∷ [])

-- a constant table, a step expression of a skipped iteration, and break: for (i = 0; i < 9; i++) { if (i == 1)
-- continue; if (i == 3) break; a[0] += k[i]; }
abbrev pub table_sum : Program
table_sum = record {
  tables =
      record { array = record { space = space.Constant; element = t.Uchar; count = 3 }; bytes = 5 ∷ 60 ∷ 70 ∷ [] } ∷ [];
  functions = kernel 1 (global_ints 0 ∷ an_int ∷ []) [] (
      Block (listed (
      Declare 1 (Some (number 0))
      ∷ Loop 0 true (Some (ints bin.Lt (named 1) (number 9)))
      (Some (Apply (Change 1 bin.Add t.Int t.Int true) (pair (named 1) (number 1)))) (Block (listed (
      If 1 (ints bin.Eq (named 1) (number 1)) (one_of (Continue 2)) empty
      ∷ If 3 (ints bin.Eq (named 1) (number 3)) (one_of (Break 4)) empty
      ∷ Do (Update 5 t.Int (root.Param 0) bin.Add t.Int t.Int false (long (number 0))
      (int (Apply (Load 6 t.Uchar (root.Constant 0)) (single (long (named 1))))))
      ∷ []
      )))
      ∷ []
      ))
      ∷ []
      ) ∷ [];
  kernel = 0;
  sites = [];
}

abbrev pub TableSum : Type 0
TableSum = play 400 table_sum (line 1 1 (bound.Buffer 0 ∷ []) (4 ∷ [])) (buffer (1000 ∷ []) ∷ []) ≡
    Finished (buffer (1075 ∷ []) ∷ [])

-- a[y * 4 + x] = 100 * get_group_id(1) + 10 * get_local_id(0) + get_local_id(1), global 4 by 2, local 2 by 1
abbrev pub indices : Program
indices =
    program (kernel 1 (global_ints 0 ∷ []) [] (
    put 0 (root.Param 0) (long (ints bin.Add (ints bin.Mul (int (ask_at query.GlobalId 1)) (number 4))
    (int (ask query.GlobalId))))
    (ints bin.Add (ints bin.Add (ints bin.Mul (number 100) (int (ask_at query.GroupId 1)))
    (ints bin.Mul (number 10) (int (ask query.LocalId)))) (int (ask_at query.LocalId 1)))
    ∷ []
    ) ∷ []) 0

abbrev pub plane : List ℕ → List ℕ → List ℕ → Launch
plane global local lengths = record {
  dims = 2;
  global = global;
  local = local;
  offset = 0 ∷ 0 ∷ 0 ∷ [];
  turns = 0;
  args = bound.Buffer 0 ∷ [];
  lengths = lengths;
  load_count = 1;
  save_count = 1;
}

abbrev pub Indices : Type 0
Indices = play 700 indices (plane (4 ∷ 2 ∷ 1 ∷ []) (2 ∷ 1 ∷ 1 ∷ []) (32 ∷ []))
    (buffer (0 ∷ 0 ∷ 0 ∷ 0 ∷ 0 ∷ 0 ∷ 0 ∷ 0 ∷ []) ∷ []) ≡
    Finished (buffer (0 ∷ 10 ∷ 0 ∷ 10 ∷ 100 ∷ 110 ∷ 100 ∷ 110 ∷ []) ∷ [])

-- if (get_global_id(0) == 1 && get_global_id(1) == 0) a[4] = 1, global 2 by 2 on 16 bytes: which item faults depends
-- on the local sizes
abbrev pub column : Program
column =
    program (kernel 1 (global_ints 0 ∷ []) [] (
    If 0 (Choose 1 (ints bin.Eq (int (ask query.GlobalId)) (number 1))
    (truth_of (ints bin.Eq (int (ask_at query.GlobalId 1)) (number 0))) (decided false))
    (one_of (put 2 (root.Param 0) (long (number 4)) (number 1))) empty
    ∷ []
    ) ∷ []) 0

abbrev pub ColumnWide : Type 0
ColumnWide =
    play 300 column (plane (2 ∷ 2 ∷ 1 ∷ []) (1 ∷ 2 ∷ 1 ∷ []) (16 ∷ [])) (buffer (0 ∷ 0 ∷ 0 ∷ 0 ∷ []) ∷ []) ≡ Faulted 2 2

abbrev pub ColumnHigh : Type 0
ColumnHigh =
    play 300 column (plane (2 ∷ 2 ∷ 1 ∷ []) (2 ∷ 1 ∷ 1 ∷ []) (16 ∷ [])) (buffer (0 ∷ 0 ∷ 0 ∷ 0 ∷ []) ∷ []) ≡ Faulted 1 2
