-- Kernels with barriers and local memory.
use Rattle.std.specs.Prelude.{◌≡◌, ℕ, pos, [], ◌∷◌, Some, None}
use Rattle.std.specs.Prelude.{true, false}
use Rattle.wg_num.specs.declared.types.IntType.TheVariants as t
use Rattle.wg_num.specs.declared.types.Bin.TheVariants as bin
use Rattle.cl_model.specs.declared.program.Space.TheVariants as space
use Rattle.cl_model.specs.declared.program.Root.TheVariants as root
use Rattle.cl_model.specs.declared.program.VarKind.TheVariants as kind
use Rattle.cl_model.specs.declared.program.Query.TheVariants as query
use Rattle.cl_model.specs.declared.launch.Bound.TheVariants as bound
use Rattle.cl_model.specs.Tree.{Binary, Change, Expression, Apply, Update, Choose, Call, pair, truth_of, decided}
use Rattle.cl_model.specs.Tree.{Declare, Do, Block, If, Loop, Switch, Return, Barrier, empty, also, arm, no_arm}
use Rattle.cl_model.specs.Tree.{Program}
use Rattle.examples_model.specs.Terms.{number, named, long, int, ints, ask, element, put, set, one_of, listed}
use Rattle.examples_model.specs.Terms.{global_ints, an_int, local_ints, kernel, program, line, buffer}
use Rattle.examples_model.specs.Play.{play, play_back, Finished, Stuck}

-- __local int t[4]; int l = get_local_id(0); t[l] = a[get_global_id(0)]; barrier(..); a[get_global_id(0)] = t[3 - l];
abbrev pub reverse : Program
reverse =
    program (kernel 1 (global_ints 0 ∷ an_int ∷ []) (local_ints 4 ∷ []) (
    Declare 1 (Some (int (ask query.LocalId)))
    ∷ put 0 (root.Local 0) (long (named 1)) (element 1 (root.Param 0) (long (ask query.GlobalId)))
    ∷ Barrier 2
    ∷ put 3 (root.Param 0) (long (ask query.GlobalId))
    (element 4 (root.Local 0) (long (ints bin.Sub (number 3) (named 1))))
    ∷ []
    ) ∷ []) 0

abbrev pub Reverses : Type 0
Reverses = play 700 reverse (line 8 4 (bound.Buffer 0 ∷ []) (32 ∷ [])) (buffer (1 ∷ 2 ∷ 3 ∷ 4 ∷ 5 ∷ 6 ∷ 7 ∷ 8 ∷ []) ∷
    []) ≡ Finished (buffer (4 ∷ 3 ∷ 2 ∷ 1 ∷ 8 ∷ 7 ∷ 6 ∷ 5 ∷ []) ∷ [])

-- local memory starts as zeros in each group: __local int t[2]; a[get_global_id(0)] += t[get_local_id(0)];
-- t[get_local_id(0)] = 9;
abbrev pub fresh : Program
fresh =
    program (kernel 1 (global_ints 0 ∷ []) (local_ints 2 ∷ []) (
    Do (Update 0 t.Int (root.Param 0) bin.Add t.Int t.Int false (long (ask query.GlobalId))
    (element 1 (root.Local 0) (long (ask query.LocalId))))
    ∷ put 2 (root.Local 0) (long (ask query.LocalId)) (number 9)
    ∷ []
    ) ∷ []) 0

abbrev pub IsFresh : Type 0
IsFresh = play 300 fresh (line 4 2 (bound.Buffer 0 ∷ []) (16 ∷ [])) (buffer (5 ∷ 6 ∷ 7 ∷ 8 ∷ []) ∷ []) ≡
    Finished (buffer (5 ∷ 6 ∷ 7 ∷ 8 ∷ []) ∷ [])

-- the same of an argument of local memory
abbrev pub passed : Program
passed =
    program (kernel 2 (global_ints 0 ∷ kind.Pointer space.Local t.Int (root.Param 1) ∷ []) (local_ints 1 ∷ []) (
    Do (Update 0 t.Int (root.Param 0) bin.Add t.Int t.Int false (long (ask query.GlobalId))
    (element 1 (root.Param 1) (long (ask query.LocalId))))
    ∷ put 2 (root.Param 1) (long (ask query.LocalId)) (number 9)
    ∷ put 3 (root.Local 0) (long (number 0)) (number 9)
    ∷ []
    ) ∷ []) 0

abbrev pub IsPassed : Type 0
IsPassed = play 300 passed (line 4 2 (bound.Buffer 0 ∷ bound.Local 8 ∷ []) (16 ∷ [])) (buffer (5 ∷ 6 ∷ 7 ∷ 8 ∷ []) ∷
    []) ≡ Finished (buffer (5 ∷ 6 ∷ 7 ∷ 8 ∷ []) ∷ [])

-- if (get_local_id(0) == 0) barrier(..); a[get_global_id(0)] = 1: item 0 waits for ever
abbrev pub parts : Program
parts =
    program (kernel 1 (global_ints 0 ∷ []) [] (
    If 0 (ints bin.Eq (int (ask query.LocalId)) (number 0)) (one_of (Barrier 1)) empty
    ∷ put 2 (root.Param 0) (long (ask query.GlobalId)) (number 1)
    ∷ []
    ) ∷ []) 0

abbrev pub Parts : Type 0
Parts = play 300 parts (line 4 4 (bound.Buffer 0 ∷ []) (16 ∷ [])) (buffer (0 ∷ 0 ∷ 0 ∷ 0 ∷ []) ∷ []) ≡ Stuck 0

-- for (i = 0; i <= l; i++) if (i == l) barrier(..): one barrier, in different iterations, so nobody is released
abbrev pub iterations_part : Program
iterations_part =
    program (kernel 1 (global_ints 0 ∷ an_int ∷ an_int ∷ []) [] (
    Declare 1 (Some (int (ask query.LocalId)))
    ∷ Declare 2 (Some (number 0))
    ∷ Loop 0 true (Some (ints bin.Le (named 2) (named 1)))
    (Some (Apply (Change 2 bin.Add t.Int t.Int true) (pair (named 2) (number 1))))
    (If 1 (ints bin.Eq (named 2) (named 1)) (one_of (Barrier 2)) empty)
    ∷ []
    ) ∷ []) 0

abbrev pub IterationsPart : Type 0
IterationsPart = play 300 iterations_part (line 2 2 (bound.Buffer 0 ∷ []) (4 ∷ [])) (buffer (0 ∷ []) ∷ []) ≡ Stuck 0

-- for (i = 0; i < lid; i++) if (i == 100) barrier(..); a[get_global_id(0)] = i: the items begin different numbers of
-- iterations
abbrev pub lengths : Program
lengths =
    program (kernel 1 (global_ints 0 ∷ an_int ∷ an_int ∷ []) [] (
    Declare 1 None
    ∷ Declare 2 (Some (int (ask query.LocalId)))
    ∷ set 1 (number 0)
    ∷ Loop 0 true (Some (ints bin.Lt (named 1) (named 2)))
    (Some (Apply (Change 1 bin.Add t.Int t.Int true) (pair (named 1) (number 1))))
    (If 1 (ints bin.Eq (named 1) (number 100)) (one_of (Barrier 2)) empty)
    ∷ put 3 (root.Param 0) (long (ask query.GlobalId)) (named 1)
    ∷ []
    ) ∷ []) 0

abbrev pub Lengths : Type 0
Lengths = play 400 lengths (line 4 4 (bound.Buffer 0 ∷ []) (16 ∷ [])) (buffer (7 ∷ 7 ∷ 7 ∷ 7 ∷ []) ∷ []) ≡
    Finished (buffer (0 ∷ 1 ∷ 2 ∷ 3 ∷ []) ∷ [])

-- int meet(__local int *t, int l) { t[l] = t[l] + 1; barrier(..); return t[1 - l]; }
-- int x = meet(t, l); barrier(..); int y = x == 1 && meet(t, l) == 2; a[l] = x * 10 + y;
abbrev pub meet_call : ℕ → Expression
meet_call site = Call site 0 (Some (root.Local 0) ∷ None ∷ []) (pair (long (number 0)) (named 1))

abbrev pub two : Program
two =
    program (
    record {
      parameters = 2;
      result = Some t.Int;
      variables = kind.Pointer space.Local t.Int (root.Param 0) ∷ an_int ∷ [];
      arrays = [];
      body = listed (
          put 0 (root.Param 0) (Apply (Binary bin.Add t.Long) (pair (named 0) (long (named 1))))
          (ints bin.Add (element 1 (root.Param 0)
          (Apply (Binary bin.Add t.Long) (pair (named 0) (long (named 1))))) (number 1))
          ∷ Barrier 2
          ∷ Return 3 (Some (element 4 (root.Param 0)
          (Apply (Binary bin.Add t.Long) (pair (named 0) (long (ints bin.Sub (number 1) (named 1)))))))
          ∷ []
          );
    }
    ∷ kernel 1 (global_ints 0 ∷ an_int ∷ an_int ∷ an_int ∷ []) (local_ints 2 ∷ []) (
    Declare 1 (Some (int (ask query.LocalId)))
    ∷ Declare 2 (Some (meet_call 5))
    ∷ Barrier 6
    ∷ Declare 3 (Some (Choose 7 (ints bin.Eq (named 2) (number 1)) (truth_of (ints bin.Eq (meet_call 8) (number 2)))
    (decided false)))
    ∷ put 9 (root.Param 0) (long (named 1)) (ints bin.Add (ints bin.Mul (named 2) (number 10)) (named 3))
    ∷ []
    )
    ∷ []
    ) 1

abbrev pub Meets : Type 0
Meets = play 400 two (line 2 2 (bound.Buffer 0 ∷ []) (8 ∷ [])) (buffer (0 ∷ 0 ∷ []) ∷ []) ≡
    Finished (buffer (11 ∷ 11 ∷ []) ∷ [])

-- a prefix sum: for (d = 1; d < 4; d *= 2) { v = t[l]; if (l >= d) v += t[l - d]; barrier(..); t[l] = v; barrier(..); }
abbrev pub scan : Program
scan =
    program (kernel 1 (global_ints 0 ∷ an_int ∷ an_int ∷ an_int ∷ []) (local_ints 4 ∷ []) (
    Declare 1 (Some (int (ask query.LocalId)))
    ∷ Declare 2 None
    ∷ Declare 3 None
    ∷ put 0 (root.Local 0) (long (named 1)) (element 1 (root.Param 0) (long (ask query.GlobalId)))
    ∷ Barrier 2
    ∷ set 2 (number 1)
    ∷ Loop 3 true (Some (ints bin.Lt (named 2) (number 4)))
    (Some (Apply (Change 2 bin.Mul t.Int t.Int false) (pair (named 2) (number 2)))) (Block (listed (
    set 3 (element 4 (root.Local 0) (long (named 1)))
    ∷ If 5 (ints bin.Ge (named 1) (named 2))
    (one_of (Do (Apply (Change 3 bin.Add t.Int t.Int false)
    (pair (named 3) (element 6 (root.Local 0) (long (ints bin.Sub (named 1) (named 2)))))))) empty
    ∷ Barrier 7
    ∷ put 8 (root.Local 0) (long (named 1)) (named 3)
    ∷ Barrier 9
    ∷ []
    )))
    ∷ put 10 (root.Param 0) (long (ask query.GlobalId)) (element 11 (root.Local 0) (long (named 1)))
    ∷ []
    ) ∷ []) 0

abbrev pub Scans : Type 0
Scans = play 2000 scan (line 4 4 (bound.Buffer 0 ∷ []) (16 ∷ [])) (buffer (1 ∷ 1 ∷ 1 ∷ 1 ∷ []) ∷ []) ≡
    Finished (buffer (1 ∷ 2 ∷ 3 ∷ 4 ∷ []) ∷ [])

-- items that enter a switch at different arms and fall through to one barrier stand at one point:
-- switch (l) { case 0: a[0] = 1; default: barrier(..); a[l + 2] = a[0]; }
abbrev pub falls_through : Program
falls_through =
    program (kernel 1 (global_ints 0 ∷ an_int ∷ []) [] (
    Declare 1 (Some (int (ask query.LocalId)))
    ∷ Switch 0 (named 1) (arm (pos 0 ∷ []) false (one_of (put 1 (root.Param 0) (long (number 0)) (number 1)))
    (arm [] true (also (Barrier 2)
    (one_of (put 3 (root.Param 0) (long (ints bin.Add (named 1) (number 2)))
    (element 4 (root.Param 0) (long (number 0)))))) no_arm))
    ∷ []
    ) ∷ []) 0

abbrev pub FallsThrough : Type 0
FallsThrough = play 400 falls_through (line 2 2 (bound.Buffer 0 ∷ []) (16 ∷ [])) (buffer (0 ∷ 0 ∷ 0 ∷ 0 ∷ []) ∷ []) ≡
    Finished (buffer (1 ∷ 0 ∷ 1 ∷ 1 ∷ []) ∷ [])

-- in another order of the items the buffers are the same
abbrev pub ScansBack : Type 0
ScansBack = play_back 2000 scan (line 4 4 (bound.Buffer 0 ∷ []) (16 ∷ [])) (buffer (1 ∷ 1 ∷ 1 ∷ 1 ∷ []) ∷ []) ≡
    Finished (buffer (1 ∷ 2 ∷ 3 ∷ 4 ∷ []) ∷ [])

abbrev pub MeetsBack : Type 0
MeetsBack = play_back 400 two (line 2 2 (bound.Buffer 0 ∷ []) (8 ∷ [])) (buffer (0 ∷ 0 ∷ []) ∷ []) ≡
    Finished (buffer (11 ∷ 11 ∷ []) ∷ [])

-- two items that race, a[0] = get_global_id(0), leave the one's number or the other's
abbrev pub race : Program
race = program (kernel 1 (global_ints 0 ∷ []) [] (put 0 (root.Param 0) (long (number 0)) (int (ask query.GlobalId)) ∷
    []) ∷ []) 0

abbrev pub RaceOneWay : Type 0
RaceOneWay =
    play 100 race (line 2 2 (bound.Buffer 0 ∷ []) (4 ∷ [])) (buffer (9 ∷ []) ∷ []) ≡ Finished (buffer (1 ∷ []) ∷ [])

abbrev pub RaceOtherWay : Type 0
RaceOtherWay = play_back 100 race (line 2 2 (bound.Buffer 0 ∷ []) (4 ∷ [])) (buffer (9 ∷ []) ∷ []) ≡
    Finished (buffer (0 ∷ []) ∷ [])
