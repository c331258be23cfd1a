-- From the code's steps to what the check of a unit answers.
use Rattle.std.proofs.Common.{◌≡◌, ℕ, List, [], ◌++◌, Option, ap, sym, ◌∙◌, subst}
use Rattle.std.proofs.lemmas.List.{append-nil}
use Rattle.wg_num.specs.declared.types.Place.{Place}
use Rattle.cl_tree.specs.Syntax.{Syntax}
use Rattle.cl_meaning.specs.declared.fault.Fault.{Fault}
use Rattle.cl_meaning.specs.declared.kind.Kind.{Kind}
use Rattle.cl_meaning.specs.declared.kind.Role.TheVariants as roles
use Rattle.cl_meaning.specs.Environment.{Env, Table}
use Rattle.cl_meaning.specs.Declarations.{parts_of, definitions_in}
use Rattle.cl_meaning.specs.Visible.{behind, in_order}
use Rattle.cl_meaning.specs.Faults.{Asked, Call, AllSound, FirstFault, calls_of, missing_of}
use Rattle.cl_meaning.specs.Typed.{Piece, Made, Function, Unit'}
use Rattle.cl_meaning.specs.Meant.{meant, start_of, kernel_from, all_functions, unit_meant}
use Rattle.cl_check.specs.Walk.{Walked, Faulted}
use Rattle.cl_check.specs.Gather.{Gathered, own_calls, own_missing, given_in}
use Rattle.cl_limits.specs.Judged.{nodes_of, asked_in}
use Rattle.cl_check.proofs.Gathering.{calls_are, missing_are}

-- what is gathered is what the nodes are judged by
pub asked_is : (places : List Place) (kernel word : List ℕ) (unit : Syntax) (env env' : Env) (k : Option Kind)
    (c0 calls : List Call) (m0 missing : List (List ℕ)) →
    env ≡ start_of places unit → c0 ≡ [] → m0 ≡ [] → Gathered env unit c0 m0 env' k calls missing → word ≡ kernel →
    record { kernel = word; calls = calls; missing = missing } ≡ asked_in places kernel unit
asked_is places kernel word unit env env' k c0 calls m0 missing e c1 m1 g w =
    let start = start_of places unit in
    let c : calls ≡ calls_of (nodes_of places unit) =
    g.calls' ∙ (ap (λ z. z ++ given_in own_calls env unit) c1 ∙
    (ap (λ z. given_in own_calls z unit) e ∙ (sym (append-nil (given_in own_calls start unit)) ∙
    sym (calls_are start roles.Other unit [])))) in
    let m : missing ≡ missing_of (nodes_of places unit) =
    g.missing' ∙ (ap (λ z. z ++ given_in own_missing env unit) m1 ∙
    (ap (λ z. given_in own_missing z unit) e ∙ (sym (append-nil (given_in own_missing start unit)) ∙
    sym (missing_are start roles.Other unit [])))) in
    ap (λ z. record { kernel = z; calls = calls; missing = missing }) w
    ∙ (ap (λ z. record { kernel = kernel; calls = z; missing = missing }) c
    ∙ ap (λ z. record { kernel = kernel; calls = calls_of (nodes_of places unit); missing = z }) m)

-- a unit that is walked through has no node at fault
pub all_sound : (asked : Asked) (end : ℕ) (places : List Place) (unit : Syntax) (env env' : Env)
    (s0 sites : List Place) (p : Piece) →
    env ≡ start_of places unit → Walked asked end env s0 roles.Other unit env' sites p →
    AllSound asked (nodes_of places unit)
all_sound asked end places unit env env' s0 sites p e w =
    subst (λ z. AllSound asked (in_order z roles.Other unit [])) e ((w.passes []).sound tt)

-- and one that is not has its first fault
pub first_fault : (asked : Asked) (end : ℕ) (places : List Place) (unit : Syntax) (env : Env) (k : Fault) (token : ℕ) →
    env ≡ start_of places unit → Faulted asked end env roles.Other unit k token →
    FirstFault asked end (nodes_of places unit) k token
first_fault asked end places unit env k token e f =
    subst (λ z. FirstFault asked end (in_order z roles.Other unit []) k token) e (f [])

abbrev pub unit_by : List Table → List Function → ℕ → List Place → Unit'
unit_by tables functions number sites =
    record { tables = tables; functions = functions; kernel = number; sites = sites }

unit_is : (t1 t2 : List Table) (f1 f2 : List Function) (n1 n2 : ℕ) (s1 s2 : List Place) → t1 ≡ t2 → f1 ≡ f2 →
    n1 ≡ n2 → s1 ≡ s2 → unit_by t1 f1 n1 s1 ≡ unit_by t2 f2 n2 s2
unit_is t1 t2 f1 f2 n1 n2 s1 s2 t f n s = ap (λ z. unit_by z f1 n1 s1) t ∙
    (ap (λ z. unit_by t2 z n1 s1) f ∙ (ap (λ z. unit_by t2 f2 z s1) n ∙ ap (λ z. unit_by t2 f2 n2 z) s))

-- the program of its parts is the unit that it stands for
pub program_is : (asked : Asked) (end : ℕ) (places : List Place) (kernel : List ℕ) (unit : Syntax) (env env' : Env)
    (s0 sites : List Place) (p : Piece) (tables : List Table) (functions : List Function) (number : ℕ) →
    env ≡ start_of places unit → s0 ≡ [] → Walked asked end env s0 roles.Other unit env' sites p →
    tables ≡ env'.tables → functions ≡ all_functions p.what → number ≡ kernel_from kernel 0 env.functions →
    unit_by tables functions number sites ≡ unit_meant places kernel unit
program_is asked end places kernel unit env env' s0 sites p tables functions number e s1 w t f n =
    let start = start_of places unit in
    let m : record { piece = p; sites = sites } ≡ meant start [] unit =
    w.made ∙ (ap (λ z. meant env z unit) s1 ∙ ap (λ z. meant z [] unit) e) in
    let t' : tables ≡ (behind start unit).tables =
    t ∙ (ap (λ (z : Env). z.tables) w.environment ∙ ap (λ z. (behind z unit).tables) e) in
    let f' : functions ≡ all_functions (meant start [] unit).piece.what =
    f ∙ ap (λ (z : Made). all_functions z.piece.what) m in
    let n' : number ≡ kernel_from kernel 0 (definitions_in (parts_of unit)) =
    n ∙ ap (λ (z : Env). kernel_from kernel 0 z.functions) e in
    let s' : sites ≡ (meant start [] unit).sites = ap (λ (z : Made). z.sites) m in
    unit_is tables (behind start unit).tables functions (all_functions (meant start [] unit).piece.what) number
    (kernel_from kernel 0 (definitions_in (parts_of unit))) sites (meant start [] unit).sites t' f' n' s'
