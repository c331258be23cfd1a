-- Calls and statements whose entries are put behind others.
use Rattle.std.proofs.Common.{◌≡◌, ℕ, List, [], ◌∷◌, ◌++◌, Global, ap, sym, ◌∙◌, append_assoc}
use Rattle.std.proofs.lemmas.List.{map-append}
use Rattle.std.specs.declared.vec.Vec.{Vec}
use Rattle.cl_model.specs.declared.program.Expr.{Expr}
use Rattle.cl_model.specs.declared.program.Expr.TheVariants as expr
use Rattle.cl_model.specs.declared.program.Arg.{Arg}
use Rattle.cl_model.specs.declared.program.Stmt.{Stmt}
use Rattle.cl_model.specs.declared.program.Stmt.TheVariants as stmt
use Rattle.cl_model.specs.declared.program.SwitchArm.{SwitchArm}
use Rattle.wg_num.specs.declared.types.IntType.{IntType}
use Rattle.wg_num.specs.declared.types.Fun.{Fun}
use Rattle.cl_model.specs.Calls.{CallSite, calls_in, calls_among}
use Rattle.cl_model.specs.View.{expression_of, listed_expressions, statement_of, listed_statements}
use Rattle.cl_model.specs.Listed.{listed_arguments}
use Rattle.cl_model.specs.Listed.{listed_arms}
use Rattle.cl_model.proofs.Rows.{call_listed, builtin_listed, block_listed, switch_listed}
use Rattle.ctx_plan_text.specs.declared.outline.Entry.{Entry}
use Rattle.ctx_plan_text.specs.declared.outline.Entry.TheVariants as entry
use Rattle.ctx_plan_text.specs.Entries.{call_entries, statement_entries, all_entries, arm_entries}

-- the entries of calls and more calls
pub calls_both : (xs ys : List CallSite) → call_entries (xs ++ ys) ≡ call_entries xs ++ call_entries ys
calls_both xs ys = map-append (λ c. entry.Calls c.site c.function) xs ys

pub call_behind : (e : Expr) (site function : ℕ) (args : Vec Arg Global) (xs : List Arg) (ps qs : List Entry) →
    e ≡ expr.Call site function args → xs ≡ args.items
    → qs ≡ ps ++ call_entries (calls_among (listed_arguments xs)) →
    qs ++ call_entries (record { site = site; function = function } ∷ []) ≡ ps ++
    call_entries (calls_in (expression_of e))
call_behind e site function args xs ps qs h k q =
    let one : List CallSite = record { site = site; function = function } ∷ [] in
    let inner = calls_among (listed_arguments args.items) in
    ap (λ l. l ++ call_entries one) (q ∙ ap (λ l. ps ++ call_entries (calls_among (listed_arguments l))) k)
    ∙ (append_assoc ps (call_entries inner) (call_entries one)
    ∙ ap (λ l. ps ++ l) (sym (calls_both inner one) ∙
    sym (ap call_entries (ap (λ y. calls_in (expression_of y)) h ∙ ap calls_in (call_listed site function args)))))

pub builtin_behind : (e : Expr) (f : Fun) (of : IntType) (args : Vec Expr Global) (xs : List Expr) →
    e ≡ expr.Builtin f of args → xs ≡ args.items
    → call_entries (calls_among (listed_expressions xs)) ≡ call_entries (calls_in (expression_of e))
builtin_behind e f of args xs h k =
    ap (λ l. call_entries (calls_among (listed_expressions l))) k ∙
    sym (ap (λ x. call_entries (calls_in x)) (ap expression_of h ∙ builtin_listed f of args))

pub block_behind : (s : Stmt) (list : Vec Stmt Global) (xs : List Stmt) → s ≡ stmt.Block list → xs ≡ list.items →
    all_entries (listed_statements xs) ≡ statement_entries (statement_of s)
block_behind s list xs h k =
    ap (λ l. all_entries (listed_statements l)) k ∙ sym (ap statement_entries (ap statement_of h ∙ block_listed list))

pub switch_behind : (s : Stmt) (site : ℕ) (value : Expr) (arms : Vec SwitchArm Global) (xs : List SwitchArm)
    (ps qs : List Entry) → s ≡ stmt.Switch site value arms → xs ≡ arms.items
    → qs ≡ ps ++ call_entries (calls_in (expression_of value)) →
    qs ++ arm_entries (listed_arms xs) ≡ ps ++ statement_entries (statement_of s)
switch_behind s site value arms xs ps qs h k q =
    ap (λ l. l ++ arm_entries (listed_arms xs)) q
    ∙ (append_assoc ps (call_entries (calls_in (expression_of value))) (arm_entries (listed_arms xs))
    ∙ ap (λ l. ps ++ l) (ap (λ l. call_entries (calls_in (expression_of value)) ++ arm_entries (listed_arms l)) k ∙
    sym (ap statement_entries (ap statement_of h ∙ switch_listed site value arms))))
