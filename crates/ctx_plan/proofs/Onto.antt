-- Calls and points of statements, put behind others.
use Rattle.std.proofs.Common.{◌≡◌, ℕ, zero, suc, ◌+◌, ◌*◌, mul_assoc, ◌<◌, List, [], ◌∷◌, ◌++◌, length, get_or, drop}
use Rattle.std.proofs.Common.{Global, refl, ap, sym, ◌∙◌, arith, drop-cons}
use Rattle.std.specs.declared.vec.Vec.{Vec}
use Rattle.cl_model.specs.declared.program.Expr.{Expr}
use Rattle.cl_model.specs.declared.program.Expr.TheVariants as expr
use Rattle.cl_model.specs.declared.program.Arg.{Arg}
use Rattle.cl_model.specs.declared.program.Stmt.{Stmt}
use Rattle.cl_model.specs.declared.program.Stmt.TheVariants as stmt
use Rattle.cl_model.specs.declared.program.SwitchArm.{SwitchArm}
use Rattle.wg_num.specs.declared.types.IntType.{IntType}
use Rattle.wg_num.specs.declared.types.Fun.{Fun}
use Rattle.cl_model.specs.Sizes.{product}
use Rattle.cl_model.specs.Tree.{Expression, Expressions, more}
use Rattle.cl_model.specs.Calls.{CallSite, calls_in, calls_among}
use Rattle.cl_model.specs.View.{expression_of, argument_of, listed_expressions, statement_of}
use Rattle.cl_model.specs.Listed.{listed_arguments}
use Rattle.ctx_plan.specs.declared.outline.Piece.{Piece}
use Rattle.ctx_plan.specs.declared.outline.Piece.TheVariants as piece
use Rattle.cl_model.specs.Listed.{listed_arms}
use Rattle.ctx_plan.specs.Points.{calls_onto, points_onto, arms_onto}
use Rattle.cl_model.proofs.Rows.{call_listed, builtin_listed, switch_listed}

pub calls_onto_both : (xs ys : List CallSite) (pieces : List Piece) →
    calls_onto (xs ++ ys) pieces ≡ calls_onto ys (calls_onto xs pieces)
calls_onto_both [] ys pieces = refl
calls_onto_both (c ∷ xs) ys pieces = calls_onto_both xs ys (pieces ++ piece.Calls c.site c.function ∷ [])

pub first_left : {A : Type 0} (xs : List A) (i : ℕ) (x : A) → i < length xs → x ≡ get_or xs i x →
    drop i xs ≡ x ∷ drop (i + 1) xs
first_left xs i x h e =
    let one : suc i ≡ i + 1 = omega arith in
    drop-cons xs i x h ∙ ap (λ y. y ∷ drop (suc i) xs) (sym e) ∙ ap (λ j. x ∷ drop j xs) one

-- what is left of a list, one further
further : (e : Expression) (rest : Expressions) (ps qs r : List Piece) → qs ≡ calls_onto (calls_in e) ps
    → calls_onto (calls_among (more e rest)) ps ≡ r → calls_onto (calls_among rest) qs ≡ r
further e rest ps qs r h k =
    ap (calls_onto (calls_among rest)) h ∙ (sym (calls_onto_both (calls_in e) (calls_among rest) ps) ∙ k)

pub expressions_step : (list : List Expr) (i : ℕ) (e : Expr) (ps qs r : List Piece) → i < length list →
    e ≡ get_or list i e → qs ≡ calls_onto (calls_in (expression_of e)) ps
    → calls_onto (calls_among (listed_expressions (drop i list))) ps ≡ r →
    calls_onto (calls_among (listed_expressions (drop (i + 1) list))) qs ≡ r
expressions_step list i e ps qs r h k q s =
    further (expression_of e) (listed_expressions (drop (i + 1) list)) ps qs r q
    (sym (ap (λ l. calls_onto (calls_among (listed_expressions l)) ps) (first_left list i e h k)) ∙ s)

pub arguments_step : (list : List Arg) (i : ℕ) (a : Arg) (ps qs r : List Piece) → i < length list →
    a ≡ get_or list i a → qs ≡ calls_onto (calls_in (argument_of a)) ps
    → calls_onto (calls_among (listed_arguments (drop i list))) ps ≡ r →
    calls_onto (calls_among (listed_arguments (drop (i + 1) list))) qs ≡ r
arguments_step list i a ps qs r h k q s =
    further (argument_of a) (listed_arguments (drop (i + 1) list)) ps qs r q
    (sym (ap (λ l. calls_onto (calls_among (listed_arguments l)) ps) (first_left list i a h k)) ∙ s)

pub call_onto : (e : Expr) (site function : ℕ) (args : Vec Arg Global) (xs : List Arg) (ps qs : List Piece) →
    e ≡ expr.Call site function args → xs ≡ args.items
    → qs ≡ calls_onto (calls_among (listed_arguments xs)) ps →
    calls_onto (record { site = site; function = function } ∷ []) qs ≡ calls_onto (calls_in (expression_of e)) ps
call_onto e site function args xs ps qs h k q =
    let one : List CallSite = record { site = site; function = function } ∷ [] in
    ap (calls_onto one) (q ∙ ap (λ l. calls_onto (calls_among (listed_arguments l)) ps) k)
    ∙ (sym (calls_onto_both (calls_among (listed_arguments args.items)) one ps)
    ∙ sym (ap (λ x. calls_onto x ps)
    (ap (λ y. calls_in (expression_of y)) h ∙ ap calls_in (call_listed site function args))))

pub builtin_onto : (e : Expr) (f : Fun) (of : IntType) (args : Vec Expr Global) (xs : List Expr) (ps : List Piece) →
    e ≡ expr.Builtin f of args → xs ≡ args.items
    → calls_onto (calls_among (listed_expressions xs)) ps ≡ calls_onto (calls_in (expression_of e)) ps
builtin_onto e f of args xs ps h k =
    ap (λ l. calls_onto (calls_among (listed_expressions l)) ps) k ∙
    sym (ap (λ x. calls_onto (calls_in x) ps) (ap expression_of h ∙ builtin_listed f of args))

pub switch_onto : (s : Stmt) (site : ℕ) (value : Expr) (arms : Vec SwitchArm Global) (xs : List SwitchArm)
    (ps qs : List Piece) → s ≡ stmt.Switch site value arms → xs ≡ arms.items
    → qs ≡ calls_onto (calls_in (expression_of value)) ps →
    arms_onto (listed_arms xs) qs ≡ points_onto (statement_of s) ps
switch_onto s site value arms xs ps qs h k q =
    ap (arms_onto (listed_arms xs)) q
    ∙ (ap (λ l. arms_onto (listed_arms l) (calls_onto (calls_in (expression_of value)) ps)) k
    ∙ sym (ap (λ x. points_onto x ps) (ap statement_of h ∙ switch_listed site value arms)))

-- within a list the default makes no difference
pub any_default : {A : Type 0} (xs : List A) (i : ℕ) (d e : A) → i < length xs → get_or xs i d ≡ get_or xs i e
any_default [] i d e lt = absurd (omega (arith, lt))
any_default (x ∷ xs) zero d e lt = refl
any_default (x ∷ xs) (suc i) d e lt = any_default xs i d e (omega (arith, lt))

-- a product, one number further
pub product_step : (dims : List ℕ) (i b p d total : ℕ) → i < length dims → p ≡ b * get_or dims i d →
    b * product (drop i dims) ≡ total → p * product (drop (i + 1) dims) ≡ total
product_step dims i b p d total lt e same =
    ap (λ x. x * product (drop (i + 1) dims)) e
    ∙ (mul_assoc b (get_or dims i d) (product (drop (i + 1) dims))
    ∙
    (ap (λ xs. b * product xs) (sym
    (first_left dims i (get_or dims i d) lt (any_default dims i d (get_or dims i d) lt))) ∙ same))
