-- Which variables cross, and the columns that they share: in the inlined text the variables of a block take the first
-- columns behind those of the blocks around it.
use Rattle.std.specs.Prelude.{ℕ, zero, suc, ◌+◌, List, [], ◌∷◌, ◌++◌, length, map, replicate, ◌||◌, ◌&&◌, slice_set}
use Rattle.std.specs.Prelude.{slice_get, unwrap_or, if◌then◌else◌}
use Rattle.std.specs.Prelude.{Bool as Test, true, false}
use Rattle.cl_model.specs.Tree.{Function, Program}
use Rattle.kir.specs.Inlined.{some_holds}
use Rattle.ctx_plan.specs.Outline.{Outline, NoPiece, DeclaresThen, CutThen, CallsThen, BlockThen, function_outline}
use Rattle.ctx_plan.specs.Points.{entry}

-- for each function whether a barrier stands in its body, where the list says it of those that it calls
abbrev pub bodies_after : List Test → List Function → List Test
bodies_after inside functions = map (λ (f : Function). some_holds (entry inside) f.body) functions

-- the same with calls nested less deep than the depth
abbrev pub holding_after : List Function → (depth : ℕ) → List Test
holding_after functions zero = replicate (length functions) false
holding_after functions (suc depth) = bodies_after (holding_after functions depth) functions

-- no function leads back to itself, so calls nest less deep than there are functions
abbrev pub holding_of : List Function → List Test
holding_of functions = holding_after functions (length functions)

-- a cut stands in the outline
abbrev pub has_cut : (inside : ℕ → Test) → Outline → Test
has_cut inside NoPiece = false
has_cut inside (DeclaresThen x rest) = has_cut inside rest
has_cut inside (CutThen rest) = true
has_cut inside (CallsThen site function rest) = inside function || has_cut inside rest
has_cut inside (BlockThen inner rest) = has_cut inside inner || has_cut inside rest

-- the list with the variables marked that cross: behind whose declaration a cut stands in the rest of the block
abbrev pub mark_crossing : (inside : ℕ → Test) → Outline → List Test → List Test
mark_crossing inside NoPiece list = list
mark_crossing inside (DeclaresThen x rest) list =
    if has_cut inside rest then slice_set (mark_crossing inside rest list) x true else mark_crossing inside rest list
mark_crossing inside (CutThen rest) list = mark_crossing inside rest list
mark_crossing inside (CallsThen site function rest) list = mark_crossing inside rest list
mark_crossing inside (BlockThen inner rest) list = mark_crossing inside inner (mark_crossing inside rest list)

-- how many of the variables that a block declares itself are marked
abbrev pub own_columns : (marked : ℕ → Test) → Outline → ℕ
own_columns marked NoPiece = 0
own_columns marked (DeclaresThen x rest) = (if marked x then 1 else 0) + own_columns marked rest
own_columns marked (CutThen rest) = own_columns marked rest
own_columns marked (CallsThen site function rest) = own_columns marked rest
own_columns marked (BlockThen inner rest) = own_columns marked rest

-- the number of each variable of a function among the columns that the function takes, and for each site of a call
-- how many the blocks of the caller around it take
pub record Columns : Type 0 where
  pub numbers : List ℕ
  pub taken : List ℕ

-- the marked variables of what is left of a block are numbered from `next` on; the block and those around it take
-- `within` columns
abbrev pub share_columns : (marked : ℕ → Test) → (within next : ℕ) → Outline → Columns → Columns
share_columns marked within next NoPiece s = s
share_columns marked within next (DeclaresThen x rest) s =
    if marked x then share_columns marked within (next + 1) rest (record {
      numbers = slice_set s.numbers x next;
      taken = s.taken;
    }) else share_columns marked within next rest s
share_columns marked within next (CutThen rest) s = share_columns marked within next rest s
share_columns marked within next (CallsThen site function rest) s =
    share_columns marked within next rest (record { numbers = s.numbers; taken = slice_set s.taken site within })
share_columns marked within next (BlockThen inner rest) s =
    share_columns marked within next rest (share_columns marked (within + own_columns marked inner) within inner s)

-- of a whole block, around which so many columns are taken
abbrev pub share_block : (marked : ℕ → Test) → (around : ℕ) → Outline → Columns → Columns
share_block marked around block s = share_columns marked (around + own_columns marked block) around block s

-- the entries that both lists have, from the one of the second with this number on, as many as the first has
abbrev pub both : ℕ → List Test → List Test → List Test
both n [] second = []
both n (a ∷ first) second = (a && entry second n) ∷ both (n + 1) first second

-- what is said of the variables of all functions, and of all sites
pub record Shares : Type 0 where
  pub crossing : List (List Test)
  pub numbers : List (List ℕ)
  pub taken : List ℕ

-- the list with this number, empty where there is none
abbrev pub row : {A : Type 0} → List (List A) → ℕ → List A
row lists n = unwrap_or (slice_get lists n) []

-- which variables of a function cross
abbrev pub crossing_of : (inside : List Test) → Function → List Test
crossing_of inside f =
    mark_crossing (entry inside) (function_outline (entry inside) f) (replicate (length f.variables) false)

-- the columns of a function of which these variables vary
abbrev pub columns_of : (inside varying : List Test) → Function → (taken : List ℕ) → Columns
columns_of inside varying f taken =
    share_block (entry (both 0 (crossing_of inside f) varying)) 0 (function_outline (entry inside) f)
    (record { numbers = replicate (length f.variables) 0; taken = taken })

-- what is said with one function more
abbrev pub with_function : (inside varying : List Test) → Function → Shares → Shares
with_function inside varying f s =
    let columns = columns_of inside varying f s.taken in
    record {
      crossing = s.crossing ++ crossing_of inside f ∷ [];
      numbers = s.numbers ++ columns.numbers ∷ [];
      taken = columns.taken;
    }

-- and with functions, the first of which has this number
abbrev pub shares_onto : (inside : List Test) → (varying : List (List Test)) → ℕ → List Function → Shares → Shares
shares_onto inside varying n [] s = s
shares_onto inside varying n (f ∷ functions) s =
    shares_onto inside varying (n + 1) functions (with_function inside (row varying n) f s)

-- of a program
abbrev pub shares_of : Program → (varying : List (List Test)) → Shares
shares_of program varying =
    shares_onto (holding_of program.functions) varying 0 program.functions (record {
      crossing = [];
      numbers = [];
      taken = replicate (length program.sites) 0;
    })
