-- The definitions compute: each example is proved by computing both sides.
use Rattle.std.proofs.Common.{refl}
use Rattle.wg_num.specs.Wrap.{wrap_of, bits_of, value_of, modulus, half}
use Rattle.wg_num.specs.Operators.{unary_of, binary_of}
use Rattle.examples_model.specs.Straight.{Increments, Wraps, Faults, FaultsBefore, Squares, Switches, Shares}
use Rattle.examples_model.specs.Straight.{SomeCleared, Calls, TableSum, Indices, ColumnWide, ColumnHigh}
use Rattle.examples_model.specs.Barriers.{Reverses, IsFresh, IsPassed, Parts, IterationsPart, Lengths, Meets, Scans}
use Rattle.examples_model.specs.Barriers.{FallsThrough, ScansBack, MeetsBack, RaceOneWay, RaceOtherWay}

pub increments : Increments
unfolding wrap_of bits_of value_of modulus half binary_of unary_of
increments = refl

pub wraps : Wraps
unfolding wrap_of bits_of value_of modulus half binary_of unary_of
wraps = refl

pub faults : Faults
unfolding wrap_of bits_of value_of modulus half binary_of unary_of
faults = refl

pub faults_before : FaultsBefore
unfolding wrap_of bits_of value_of modulus half binary_of unary_of
faults_before = refl

pub squares : Squares
unfolding wrap_of bits_of value_of modulus half binary_of unary_of
squares = refl

pub switches : Switches
unfolding wrap_of bits_of value_of modulus half binary_of unary_of
switches = refl

pub shares : Shares
unfolding wrap_of bits_of value_of modulus half binary_of unary_of
shares = refl

pub some_cleared : SomeCleared
unfolding wrap_of bits_of value_of modulus half binary_of unary_of
some_cleared = refl

pub calls : Calls
unfolding wrap_of bits_of value_of modulus half binary_of unary_of
calls = refl

pub table_sum : TableSum
unfolding wrap_of bits_of value_of modulus half binary_of unary_of
table_sum = refl

pub indices : Indices
unfolding wrap_of bits_of value_of modulus half binary_of unary_of
indices = refl

pub column_wide : ColumnWide
unfolding wrap_of bits_of value_of modulus half binary_of unary_of
column_wide = refl

pub column_high : ColumnHigh
unfolding wrap_of bits_of value_of modulus half binary_of unary_of
column_high = refl

pub reverses : Reverses
unfolding wrap_of bits_of value_of modulus half binary_of unary_of
reverses = refl

pub is_fresh : IsFresh
unfolding wrap_of bits_of value_of modulus half binary_of unary_of
is_fresh = refl

pub is_passed : IsPassed
unfolding wrap_of bits_of value_of modulus half binary_of unary_of
is_passed = refl

pub parts : Parts
unfolding wrap_of bits_of value_of modulus half binary_of unary_of
parts = refl

pub iterations_part : IterationsPart
unfolding wrap_of bits_of value_of modulus half binary_of unary_of
iterations_part = refl

pub lengths : Lengths
unfolding wrap_of bits_of value_of modulus half binary_of unary_of
lengths = refl

pub meets : Meets
unfolding wrap_of bits_of value_of modulus half binary_of unary_of
meets = refl

pub scans : Scans
unfolding wrap_of bits_of value_of modulus half binary_of unary_of
scans = refl

pub falls_through : FallsThrough
unfolding wrap_of bits_of value_of modulus half binary_of unary_of
falls_through = refl

pub scans_back : ScansBack
unfolding wrap_of bits_of value_of modulus half binary_of unary_of
scans_back = refl

pub meets_back : MeetsBack
unfolding wrap_of bits_of value_of modulus half binary_of unary_of
meets_back = refl

pub race_one_way : RaceOneWay
unfolding wrap_of bits_of value_of modulus half binary_of unary_of
race_one_way = refl

pub race_other_way : RaceOtherWay
unfolding wrap_of bits_of value_of modulus half binary_of unary_of
race_other_way = refl
