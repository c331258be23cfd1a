-- A round over the nodes whose parts stand in a Vec or a target.
use Rattle.std.proofs.Common.{◌≡◌, ℕ, List, Bool, false, ◌||◌, Global, refl, ap, sym, ◌∙◌}
use Rattle.std.specs.declared.vec.Vec.{Vec}
use Rattle.wg_num.specs.declared.types.IntType.{IntType}
use Rattle.wg_num.specs.declared.types.Bin.{Bin}
use Rattle.wg_num.specs.declared.types.Fun.{Fun}
use Rattle.cl_model.specs.declared.program.Expr.{Expr}
use Rattle.cl_model.specs.declared.program.Expr.TheVariants as expr
use Rattle.cl_model.specs.declared.program.Arg.{Arg}
use Rattle.cl_model.specs.declared.program.Target.{Target}
use Rattle.cl_model.specs.declared.program.Target.TheVariants as target
use Rattle.cl_model.specs.Tree.{Function, Expression}
use Rattle.cl_model.specs.View.{expression_of, listed_expressions, assigned, updated}
use Rattle.diverge.specs.declared.known.Spot.{Spot}
use Rattle.diverge.specs.Known.{State, result_at}
use Rattle.cl_model.specs.Listed.{listed_arguments}
use Rattle.diverge.specs.Listed.{seen_target, set_target}
use Rattle.diverge.specs.Rounds.{Seen, seen_in, seen_among, seen_arguments, unseen}
use Rattle.cl_model.proofs.Rows.{call_listed, builtin_listed}

-- what a call finds, behind its arguments
abbrev pub behind_call : ℕ → State → Seen
behind_call g t = record { varies = (result_at t g).varies; state = t }

pub call_seen : (e : Expr) (site function : ℕ) (args : Vec Arg Global) (own : Function) (at : Spot) (xs : List Arg)
    (s t : State) → e ≡ expr.Call site function args → xs ≡ args.items
    → t ≡ seen_arguments own at function 0 (listed_arguments xs) s →
    behind_call function t ≡ seen_in own at (expression_of e) s
call_seen e site function args own at xs s t h k q =
    ap (behind_call function) (q ∙ ap (λ l. seen_arguments own at function 0 (listed_arguments l) s) k)
    ∙ sym (ap (λ x. seen_in own at x s) (ap expression_of h ∙ call_listed site function args))

pub builtin_seen : (e : Expr) (f : Fun) (of : IntType) (args : Vec Expr Global) (own : Function) (at : Spot)
    (xs : List Expr) (s : State) → e ≡ expr.Builtin f of args → xs ≡ args.items
    → seen_among own at false (listed_expressions xs) (unseen s) ≡ seen_in own at (expression_of e) s
builtin_seen e f of args own at xs s h k =
    ap (λ l. seen_among own at false (listed_expressions l) (unseen s)) k ∙
    sym (ap (λ x. seen_in own at x s) (ap expression_of h ∙ builtin_listed f of args))

-- an assignment, by its target and its right side
abbrev pub after_target : Spot → Target → Bool → Seen → Seen
after_target at t old r = record { varies = old || r.varies; state = set_target at t (old || r.varies) r.state }

pub assigned_seen : (t : Target) (v : Expression) (own : Function) (at : Spot) (s : State) →
    seen_in own at (assigned t v) s ≡ after_target at t false (seen_in own at v (seen_target own at t s).state)
assigned_seen (target.Var x) v own at s = refl
assigned_seen (target.Element' site element root p i) v own at s = refl

pub updated_seen : (t : Target) (op : Bin) (of back : IntType) (old : Bool) (v : Expression) (own : Function)
    (at : Spot) (s : State)
    → seen_in own at (updated t op of back old v) s ≡ after_target at t (seen_target own at t s).varies
    (seen_in own at v (seen_target own at t s).state)
updated_seen (target.Var x) op of back old v own at s = refl
updated_seen (target.Element' site element root p i) op of back old v own at s = refl
