-- The functions of a unit, in order: what is known of each.
use Rattle.std.proofs.Common.{◌≡◌, ℕ, suc, ◌+◌, ◌*◌, ◌<◌, ◌≤◌, List, [], ◌∷◌, ◌++◌, length, map, append_assoc, None}
use Rattle.std.proofs.Common.{Some, Bool, true, false, if◌then◌else◌, refl, ap, sym, ◌∙◌, subst, inl, inr, ◌⊎◌, arith}
use Rattle.std.proofs.lemmas.Bool.{false≢true}
use Rattle.std.proofs.lemmas.Option.{none-some}
use Rattle.std.specs.Str.{bytes_eq}
use Rattle.wg_num.specs.declared.types.Place.{Place}
use Rattle.cl_model.specs.Lists.{Each}
use Rattle.cl_model.specs.Tree.{Function, Program}
use Rattle.cl_model.specs.Calls.{function_at}
use Rattle.cl_model.specs.Valid.{IsValidFunction}
use Rattle.cl_tree.specs.declared.tree.Form.TheVariants as forms
use Rattle.cl_tree.specs.Syntax.{Syntax, node, Forest, none, more, last_of}
use Rattle.cl_limits.specs.Kernel.{block_nodes, blocks_in}
use Rattle.cl_meaning.specs.Spelling.{name_in}
use Rattle.cl_meaning.specs.declared.kind.Role.TheVariants as roles
use Rattle.cl_meaning.specs.Environment as environment
use Rattle.cl_meaning.specs.Environment.{Env, Table, Signature, is_declared}
use Rattle.cl_meaning.specs.Declarations.{signature_in, definitions_in, firm}
use Rattle.cl_meaning.specs.Visible.{Before, inside, later, behind, behind_parts, in_definition, in_prototype}
use Rattle.cl_meaning.specs.Visible.{with_function, with_prototype, definition_from, definition_of, defined_meaning}
use Rattle.cl_meaning.specs.Visible.{number_in}
use Rattle.cl_meaning.specs.Faults.{Asked}
use Rattle.cl_meaning.specs.Typed as typed_specs
use Rattle.cl_meaning.specs.Typed.{nothing, Built}
use Rattle.cl_meaning.specs.Statements.{functions_in, function_before}
use Rattle.cl_meaning.specs.Meant.{MadeParts, with_piece, meant, parts_meant, make}
use Rattle.cl_check_sound.specs.Shape.{IsDefinition, IsAnnouncement, BehindHeads, IsDeclaration, AreDeclarators}
use Rattle.cl_check_sound.specs.Shape.{AreItems}
use Rattle.cl_check_sound.specs.Sound.{SoundTree, SoundParts}
use Rattle.cl_check_sound.specs.Erased.{table_of, function_of}
use Rattle.cl_check_sound.specs.Fits.{CalledFits, MeaningFits}
use Rattle.cl_check_sound.proofs.Measure.{Weights}
use Rattle.cl_check_sound.proofs.Small.{held}
use Rattle.cl_check_sound.proofs.Holding.{extra, extras}
use Rattle.cl_check_sound.proofs.Declarators.{declare_meant}
use Rattle.cl_check_sound.proofs.Weighing.{weigh_all, one_weighed}
use Rattle.cl_check_sound.proofs.Grown.{Extends, extends_then}
use Rattle.cl_check_sound.proofs.Fronts.{Front, function_front, Fore, prototype_fore}
use Rattle.cl_check_sound.proofs.Functions.{bare, made_lines, typed, function_is, called_fits, function_valid}
use Rattle.cl_check_sound.proofs.Functions.{defined_scoped}
use Rattle.cl_check_sound.proofs.Constants.{OneScope, AtUnit, unit_named, UnitGrown, unit_same, unit_then, AllTables}
use Rattle.cl_check_sound.proofs.Constants.{constant_line}
use Rattle.cl_check_sound.proofs.Items.{same_bytes, bytes_same, name_of, definition_first, AllCalled, meaning_known}
use Rattle.cl_check_sound.proofs.Items.{function_leaves, function_new, function_grown, function_firm, prototype_leaves}
use Rattle.cl_check_sound.proofs.Items.{prototype_uncalled, proto_entry, prototype_cases}
use Rattle.cl_check_sound.proofs.Weights.{nodes_alone, calls_alone, site_alone, held_zero, nodes_counted, site_extra}
use Rattle.cl_check_sound.proofs.Weights.{site_extras, body_weighs, function_weighs}
use Rattle.cl_check_sound.proofs.Parts.{built_of, typed_env, declare_built}

-- ---- items

pub unit_meant_next : (u : Env) (front : Bool) (sites : List Place) (p : Syntax) (ps : Forest) →
    parts_meant u forms.UnitNode front sites (more p ps) ≡ with_piece (meant u sites p).piece
    (parts_meant (behind u p) forms.UnitNode false (meant u sites p).sites ps)
unfolding parts_meant later
unit_meant_next u front sites p ps = refl

pub unit_behind_next : (u : Env) (front : Bool) (p : Syntax) (ps : Forest) →
    behind_parts u forms.UnitNode front (more p ps) ≡ behind_parts (behind u p) forms.UnitNode false ps
unfolding behind_parts later
unit_behind_next u front p ps = refl

unit_extras_next : (m : Weights) (k : ℕ) (u : Env) (front : Bool) (p : Syntax) (ps : Forest) →
    extras m k u forms.UnitNode front (more p ps) ≡ extra m k u p + extras m k (behind u p) forms.UnitNode false ps
unfolding later
unit_extras_next m k u front p ps = refl

pub unit_sound_next : (asked : Asked) (u : Env) (b : Before) (p : Syntax) (ps : Forest) →
    SoundParts asked u forms.UnitNode b (more p ps) → SoundTree asked u roles.Other p ×
    SoundParts asked (behind u p) forms.UnitNode (Some (last_of p)) ps
unfolding later
unit_sound_next asked u b p ps s = (s.0, s.1)

pub unit_none : (u : Env) (front : Bool) (sites : List Place) → (behind_parts u forms.UnitNode front none ≡ u) ×
    (parts_meant u forms.UnitNode front sites none ≡ record { pieces = []; sites = sites })
unfolding behind_parts parts_meant
unit_none u front sites = (refl, refl)

pub front_of : (asked : Asked) (u : Env) (sites : List Place) (w : List ℕ) (f l : ℕ) (parts : Forest) →
    BehindHeads IsDefinition parts → SoundTree asked u roles.Other (node forms.FunctionNode w f l parts) →
    Front asked (in_definition u (name_in w)) sites true (bare w) parts
unfolding inside
front_of asked u sites w f l parts h s =
    function_front asked (in_definition u (name_in w)) sites None true (bare w) parts h s.0

pub fore_of : (asked : Asked) (u : Env) (sites : List Place) (w : List ℕ) (f l : ℕ) (parts : Forest) →
    BehindHeads IsAnnouncement parts → SoundTree asked u roles.Other (node forms.PrototypeNode w f l parts) →
    Fore asked (in_prototype u) sites true parts
unfolding inside
fore_of asked u sites w f l parts h s = prototype_fore asked (in_prototype u) sites None true parts h s.0

pub prototype_built : (u : Env) (sites : List Place) (w : List ℕ) (f l : ℕ) (parts : Forest) →
    built_of (meant u sites (node forms.PrototypeNode w f l parts)) ≡ record {
      what = nothing;
      sites = (parts_meant (in_prototype u) forms.PrototypeNode true sites parts).sites;
    }
unfolding meant make inside
prototype_built u sites w f l parts = refl

prototype_extra : (m : Weights) (k : ℕ) (u : Env) (w : List ℕ) (f l : ℕ) (parts : Forest) →
    extra m k u (node forms.PrototypeNode w f l parts) ≡ extras m k (in_prototype u) forms.PrototypeNode true parts +
    (0 + 16 * m.plain)
unfolding inside
prototype_extra m k u w f l parts = refl

pub declaration_what : (u : Env) (sites : List Place) (t : Syntax) (fs : List typed_specs.Function) → IsDeclaration t →
    function_before (meant u sites t).piece.what fs ≡ fs
unfolding meant make
declaration_what u sites (node forms.DeclareNode w f l (more t ds)) fs h = refl
declaration_what u sites t fs h = absurd h

-- an item declares no function where it is none
pub no_definition : (t : Syntax) (ps : Forest) → IsDeclaration t → (definitions_in (more t ps) ≡ definitions_in ps) ×
    (blocks_in (more t ps) ≡ blocks_in ps)
no_definition (node forms.DeclareNode w f l (more t ds)) ps h = (refl, refl)
no_definition t ps h = absurd h

-- ---- what is known of each function

-- of the function with a number, its signature and the nodes of its block
pub record Fact (top : ℕ → (ℕ → ℕ) → ℕ) (n : ℕ) (g : Signature) (F : typed_specs.Function) (weight : ℕ) : Type 0 where
  pub called : (P : Program) → n < length P.functions → function_at P n ≡ function_of F → g.kernel ≡ false →
      CalledFits P n g
  pub nodes : weigh_all nodes_alone F.body ≤ 16 * weight
  pub calls : (c : ℕ → ℕ) → weigh_all (calls_alone c) F.body ≤ top n c

abbrev pub Facts : (ℕ → (ℕ → ℕ) → ℕ) → ℕ → List Signature → List typed_specs.Function → List ℕ → Type 0
Facts top n [] [] [] = Unit {0}
Facts top n (g ∷ gs) (F ∷ Fs) (w ∷ ws) = Fact top n g F w × Facts top (suc n) gs Fs ws
Facts top n gs Fs ws = ⊥

-- how often a site stands in functions
abbrev pub site_total : ℕ → List typed_specs.Function → ℕ
site_total s [] = 0
site_total s (F ∷ Fs) = weigh_all (site_alone s) F.body + site_total s Fs

-- what is known of all of them
pub record Known (top : ℕ → (ℕ → ℕ) → ℕ) (n : ℕ) (gs : List Signature) (ms : MadeParts) (ws : List ℕ)
    (before : ℕ) : Type 0 where
  pub facts : Facts top n gs (functions_in ms.pieces) ws
  pub sites' : (s : ℕ) → site_total s (functions_in ms.pieces) + held (site_alone s) before ≤
      held (site_alone s) (length ms.sites)

function_fact : (asked : Asked) (u : Env) (sites : List Place) (w : List ℕ) (f l : ℕ) (parts : Forest)
    (fr : Front asked (in_definition u (name_in w)) sites true (bare w) parts) (top : ℕ → (ℕ → ℕ) → ℕ) (n : ℕ) →
    (in_definition u (name_in w)).owner.number ≡ n →
    ((c : ℕ → ℕ) → extra (calls_alone c) n u (node forms.FunctionNode w f l parts) ≤ top n c) →
    Fact top n (signature_in w parts) (typed asked u sites w f l parts fr) (block_nodes parts)
function_fact asked u sites w f l parts fr top n e t = record {
  called = λ P lt at k. called_fits asked u sites w f l parts fr P n lt at k;
  nodes =
      (let a = body_weighs asked u sites w f l parts fr nodes_alone n (λ x. refl) (fr.entered.number ∙ e) in
      let b = nodes_counted n fr.eb fr.block in
      let c = fr.nodes in
      let d = held_zero nodes_alone (λ s. refl) (length (made_lines fr.eb fr.sb fr.block).sites) in
      omega arith);
  calls = λ c.
      (let a = function_weighs asked u sites w f l parts fr (calls_alone c) n (λ x. refl) e in
      let b = t c in
      let d =
      held_zero (calls_alone c) (λ s. refl) (length (meant u sites (node forms.FunctionNode w f l parts)).sites) in
      omega arith);
}

-- the names of functions before it are others
others : (u : Env) (name : List ℕ) (done : List Signature) → is_declared u name ≡ false →
    Each (λ (h : Signature). is_declared u h.name ≡ true) done →
    Each (λ (h : Signature). bytes_eq h.name name ≡ false) done
others u name [] n h = tt
others u name (g ∷ done) n h = (by (bytes_eq g.name name) refl, others u name done n h.1)
  where
    by : (b : Bool) → bytes_eq g.name name ≡ b → b ≡ false
    by true e = absurd (false≢true (sym n ∙ (ap (is_declared u) (sym (same_bytes g.name name e)) ∙ h.0)))
    by false e = refl

pub still_firm : (u later : Env) (done : List Signature) → UnitGrown u later → OneScope u →
    Each (λ (h : Signature). is_declared u h.name ≡ true) done →
    Each (λ (h : Signature). is_declared later h.name ≡ true) done
still_firm u later [] g o h = tt
still_firm u later (x ∷ done) g o h = (g.firm' x.name o h.0, still_firm u later done g o h.1)

pub each_more : {A : Type 0} (P : A → Type 0) (xs : List A) (x : A) → Each P xs → P x → Each P (xs ++ x ∷ [])
each_more P [] x h k = (k, tt)
each_more P (y ∷ xs) x h k = (h.0, each_more P xs x h.1 k)

pub length_more : {A : Type 0} (xs : List A) (x : A) → length (xs ++ x ∷ []) ≡ suc (length xs)
length_more [] x = refl
length_more (y ∷ xs) x = ap suc (length_more xs x)

abbrev no_program : Program
no_program = record { tables = []; functions = []; kernel = 0; sites = [] }

-- ---- the sites of a declaration

no_sites : (u : Env) (sites : List Place) → (parts_meant u forms.DeclareNode false sites none).sites ≡ sites
unfolding parts_meant
no_sites u sites = refl

declarators_sites : (s : ℕ) (u : Env) (sites : List Place) (ds : Forest) → AreDeclarators ds →
    held (site_alone s) (length sites) ≤
    held (site_alone s) (length (parts_meant u forms.DeclareNode false sites ds).sites)
declarators_sites s u sites none h = let e = ap (λ z. held (site_alone s) (length z)) (no_sites u sites) in omega arith
declarators_sites s u sites (more p ps) h =
    let a = (one_weighed (site_alone s) u.owner.number u sites p h.0 (λ x. refl) refl).bound in
    let z = site_extra s u.owner.number u p in
    let b = declarators_sites s (behind u p) (meant u sites p).sites ps h.1 in
    let c = ap (λ (y : MadeParts). held (site_alone s) (length y.sites)) (declare_meant u false sites p ps h.0) in
    omega arith

declaration_sites : (s : ℕ) (u : Env) (sites : List Place) (t : Syntax) → IsDeclaration t →
    held (site_alone s) (length sites) ≤ held (site_alone s) (length (meant u sites t).sites)
declaration_sites s u sites (node forms.DeclareNode w f l (more t ds)) h =
    let a = declarators_sites s (typed_env u t) sites ds h.1 in
    let c = ap (λ (y : Built). held (site_alone s) (length y.sites)) (declare_built u sites w f l t ds h.0) in
    omega arith
declaration_sites s u sites t h = absurd h

-- ---- item by item

function_known : (asked : Asked) (top : ℕ → (ℕ → ℕ) → ℕ) (u : Env) (front : Bool) (sites : List Place) (w : List ℕ)
    (f l : ℕ) (parts ps : Forest) (done : List Signature) (fr : Front asked (in_definition u (name_in w)) sites true
    (bare w) parts) →
    (in_definition u (name_in w)).owner.number ≡ length done →
    ((k : ℕ) (c : ℕ → ℕ) → extras (calls_alone c) k u forms.UnitNode front
    (more (node forms.FunctionNode w f l parts) ps) ≤ top k c) →
    Known top (length (done ++ signature_in w parts ∷ [])) (definitions_in ps)
    (parts_meant (behind u (node forms.FunctionNode w f l parts)) forms.UnitNode false
    (meant u sites (node forms.FunctionNode w f l parts)).sites ps) (blocks_in ps)
    (length (meant u sites (node forms.FunctionNode w f l parts)).sites) →
    Known top (length done) (signature_in w parts ∷ definitions_in ps)
    (parts_meant u forms.UnitNode front sites (more (node forms.FunctionNode w f l parts) ps))
    (block_nodes parts ∷ blocks_in ps) (length sites)
function_known asked top u front sites w f l parts ps done fr num t rec =
    let p = node forms.FunctionNode w f l parts in
    let F = typed asked u sites w f l parts fr in
    let wh = ap (λ (z : Built). z.what) (function_is asked u sites w f l parts fr) in
    let rest = parts_meant (behind u p) forms.UnitNode false (meant u sites p).sites ps in
    let fact = function_fact asked u sites w f l parts fr top (length done) num (λ c. (let a = t (length done) c in
    let e = unit_extras_next (calls_alone c) (length done) u front p ps in omega arith)) in
    let fs : functions_in ((meant u sites p).piece ∷ rest.pieces) ≡ F ∷ functions_in rest.pieces =
    ap (λ z. function_before z (functions_in rest.pieces)) wh in
    subst (λ z. Known top (length done) (signature_in w parts ∷ definitions_in ps) z (block_nodes parts ∷
    blocks_in ps) (length sites)) (sym (unit_meant_next u front sites p ps)) (record {
      facts = subst (λ z. Facts top (length done) (signature_in w parts ∷ definitions_in ps) z (block_nodes parts ∷
          blocks_in ps)) (sym fs) (
            fact,
            subst (λ z. Facts top z (definitions_in ps) (functions_in rest.pieces) (blocks_in ps))
                (length_more done (signature_in w parts)) rec.facts,
          );
      sites' = λ s.
          (let a = function_weighs asked u sites w f l parts fr (site_alone s) (length done) (λ x. refl) num in
          let b = site_extra s (length done) u p in
          let c = rec.sites' s in
          let d = ap (site_total s) fs in
          omega arith);
    })

other_known : (top : ℕ → (ℕ → ℕ) → ℕ) (n : ℕ) (u : Env) (front : Bool) (sites : List Place) (p : Syntax) (ps : Forest)
    (gs : List Signature) (ws : List ℕ) →
    ((fs : List typed_specs.Function) → function_before (meant u sites p).piece.what fs ≡ fs) →
    ((s : ℕ) → held (site_alone s) (length sites) ≤ held (site_alone s) (length (meant u sites p).sites)) →
    Known top n gs (parts_meant (behind u p) forms.UnitNode false (meant u sites p).sites ps) ws
    (length (meant u sites p).sites) →
    Known top n gs (parts_meant u forms.UnitNode front sites (more p ps)) ws (length sites)
other_known top n u front sites p ps gs ws e h rec =
    let rest = parts_meant (behind u p) forms.UnitNode false (meant u sites p).sites ps in
    subst (λ z. Known top n gs z ws (length sites)) (sym (unit_meant_next u front sites p ps)) (record {
      facts = subst (λ z. Facts top n gs z ws) (sym (e (functions_in rest.pieces))) rec.facts;
      sites' = λ s. (let a = h s in let c = rec.sites' s in
          let d = ap (site_total s) (e (functions_in rest.pieces)) in omega arith);
    })

prototype_sites : (asked : Asked) (s : ℕ) (u : Env) (sites : List Place) (w : List ℕ) (f l : ℕ) (parts : Forest)
    (fo : Fore asked (in_prototype u) sites true parts) →
    held (site_alone s) (length sites) ≤
    held (site_alone s) (length (meant u sites (node forms.PrototypeNode w f l parts)).sites)
prototype_sites asked s u sites w f l parts fo =
    let a = fo.weigh (site_alone s) (in_prototype u).owner.number (λ x. refl) refl in
    let b = site_extras s (in_prototype u).owner.number (in_prototype u) forms.PrototypeNode true parts in
    let c = ap (λ (z : Built). held (site_alone s) (length z.sites)) (prototype_built u sites w f l parts) in
    omega arith

-- the number of a function is its place
pub definition_known : (u : Env) (w : List ℕ) (parts : Forest) (done rest : List Signature) →
    is_declared u (name_in w) ≡ false → Each (λ (h : Signature). is_declared u h.name ≡ true) done →
    u.functions ≡ done ++ signature_in w parts ∷ rest →
    definition_of u (name_in w) ≡ Some (0 + length done, (signature_in w parts).kernel)
definition_known u w parts done rest n fm g =
    ap (definition_from (name_in w) 0) g
    ∙ definition_first (name_in w) 0 done (signature_in w parts) rest (others u (name_in w) done n fm)
    (ap (λ z. bytes_eq z (name_in w)) (name_of w parts) ∙ bytes_same (name_in w))

-- behind an item that is no function
pub unit_line : (asked : Asked) (u : Env) (t : Syntax) → IsDeclaration t → SoundTree asked u roles.Other t →
    OneScope u → UnitGrown u (behind u t)
unit_line asked u t h s o = (constant_line no_program asked [] u roles.Other t h s refl o).grown

pub prototype_grown : (asked : Asked) (u : Env) (sites : List Place) (w : List ℕ) (f l : ℕ) (parts : Forest)
    (fo : Fore asked (in_prototype u) sites true parts) → OneScope u →
    UnitGrown u (behind u (node forms.PrototypeNode w f l parts))
prototype_grown asked u sites w f l parts fo o =
    subst (λ z. UnitGrown u z) (sym (prototype_leaves asked u sites w f l parts fo)) (prototype_cases u (name_in w) o).0

pub definition_grown : (asked : Asked) (u : Env) (sites : List Place) (w : List ℕ) (f l : ℕ) (parts : Forest)
    (fr : Front asked (in_definition u (name_in w)) sites true (bare w) parts) →
    UnitGrown u (behind u (node forms.FunctionNode w f l parts))
definition_grown asked u sites w f l parts fr =
    subst (λ z. UnitGrown u z) (sym (function_leaves asked u sites w f l parts fr)) (function_grown u (name_in w))

module _ (asked : Asked) (top : ℕ → (ℕ → ℕ) → ℕ) where
  pub known : (u : Env) (front : Bool) (sites : List Place) (b : Before) (items : Forest) (done : List Signature) →
      AreItems items → SoundParts asked u forms.UnitNode b items → OneScope u →
      Each (λ (h : Signature). is_declared u h.name ≡ true) done → u.functions ≡ done ++ definitions_in items →
      ((k : ℕ) (c : ℕ → ℕ) → extras (calls_alone c) k u forms.UnitNode front items ≤ top k c) →
      Known top (length done) (definitions_in items) (parts_meant u forms.UnitNode front sites items)
      (blocks_in items) (length sites)
  known u front sites b none done h s o fm g t =
      subst (λ z. Known top (length done) [] z [] (length sites)) (sym (unit_none u front sites).1)
      (record { facts = tt; sites' = λ x. omega arith })
  known u front sites b (more (node forms.FunctionNode w f l parts) ps) done (inl h, hs) s o fm g t =
      let p = node forms.FunctionNode w f l parts in
      let x = unit_sound_next asked u b p ps s in
      let fr = front_of asked u sites w f l parts h x.0 in
      let gr = definition_grown asked u sites w f l parts fr in
      let dk = definition_known u w parts done (definitions_in ps) (function_new asked u sites roles.Other w f l parts
      fr x.0) fm g in
      let num : (in_definition u (name_in w)).owner.number ≡ length done =
      ap (number_in u) dk ∙ (let q : 0 + length done ≡ length done = omega arith in q) in
      let fi = ap (λ z. is_declared z (signature_in w parts).name) (function_leaves asked u sites w f l parts fr) ∙
      (ap (is_declared (with_function u (name_in w))) (name_of w parts) ∙ function_firm u (name_in w) o) in
      function_known asked top u front sites w f l parts ps done fr num t
      (known (behind u p) false (meant u sites p).sites (Some (last_of p)) ps (done ++ signature_in w parts ∷ []) hs
      x.1 (gr.one o)
      (each_more (λ (h : Signature). is_declared (behind u p) h.name ≡ true) done (signature_in w parts)
      (still_firm u (behind u p) done gr o fm) fi)
      (ap (λ z. z.functions) gr.frame ∙ (g ∙ sym (append_assoc done (signature_in w parts ∷ []) (definitions_in ps))))
      (λ k c. (let a = t k c in let e = unit_extras_next (calls_alone c) k u front p ps in omega arith)))
  known u front sites b (more (node forms.PrototypeNode w f l parts) ps) done (inr (inl h), hs) s o fm g t =
      let p = node forms.PrototypeNode w f l parts in
      let x = unit_sound_next asked u b p ps s in
      let fo = fore_of asked u sites w f l parts h x.0 in
      let gr = prototype_grown asked u sites w f l parts fo o in
      other_known top (length done) u front sites p ps (definitions_in ps) (blocks_in ps)
      (λ fs. ap (λ (z : Built). function_before z.what fs) (prototype_built u sites w f l parts))
      (λ s. prototype_sites asked s u sites w f l parts fo)
      (known (behind u p) false (meant u sites p).sites (Some (last_of p)) ps done hs x.1 (gr.one o)
      (still_firm u (behind u p) done gr o fm) (ap (λ z. z.functions) gr.frame ∙ g)
      (λ k c. (let a = t k c in let e = unit_extras_next (calls_alone c) k u front p ps in omega arith)))
  known u front sites b (more p ps) done (inr (inr h), hs) s o fm g t =
      let x = unit_sound_next asked u b p ps s in
      let gr = unit_line asked u p h x.0 o in
      let nd = no_definition p ps h in
      subst (λ z. Known top (length done) z (parts_meant u forms.UnitNode front sites (more p ps))
      (blocks_in (more p ps)) (length sites)) (sym nd.0)
      (subst (λ z. Known top (length done) (definitions_in ps) (parts_meant u forms.UnitNode front sites (more p ps))
      z (length sites)) (sym nd.1)
      (other_known top (length done) u front sites p ps (definitions_in ps) (blocks_in ps)
      (λ fs. declaration_what u sites p fs h) (λ s. declaration_sites s u sites p h)
      (known (behind u p) false (meant u sites p).sites (Some (last_of p)) ps done hs x.1 (gr.one o)
      (still_firm u (behind u p) done gr o fm) (ap (λ z. z.functions) gr.frame ∙ (g ∙ ap (λ z. done ++ z) nd.0))
      (λ k c. (let a = t k c in let e = unit_extras_next (calls_alone c) k u front p ps in omega arith)))))
  known u front sites b (more p ps) done (inl h, hs) s o fm g t = absurd h
  known u front sites b (more p ps) done (inr (inl h), hs) s o fm g t = absurd h

-- ---- each function is valid

pub record AllValid (P : Program) (Fs : List typed_specs.Function) (u later : Env) : Type 0 where
  pub functions' : Each (λ (F : typed_specs.Function). IsValidFunction P (function_of F)) Fs
  pub tables' : AllTables u.tables → AllTables later.tables
  pub grown' : UnitGrown u later

pub definition_there : (name : List ℕ) (n : ℕ) (done : List Signature) (g : Signature) (rest : List Signature) →
    bytes_eq g.name name ≡ true → definition_from name n (done ++ g ∷ rest) ≡ None → ⊥
definition_there name n [] g rest e h =
    none-some (n, g.kernel) (sym h ∙ ap (λ b. if b then Some (n, g.kernel) else definition_from name (suc n) rest) e)
definition_there name n (x ∷ done) g rest e h =
    by (bytes_eq x.name name) h (λ k. definition_there name (suc n) done g rest e k)
  where
    by : (b : Bool) → (if b then Some (n, x.kernel) else definition_from name (suc n) (done ++ g ∷ rest)) ≡ None →
        (definition_from name (suc n) (done ++ g ∷ rest) ≡ None → ⊥) → ⊥
    by true h k = none-some (n, x.kernel) (sym h)
    by false h k = k h

valid_next : (P : Program) (u : Env) (front : Bool) (sites : List Place) (p : Syntax) (ps : Forest)
    (Fs : List typed_specs.Function) → UnitGrown u (behind u p) →
    (AllTables u.tables → AllTables (behind u p).tables) →
    functions_in (parts_meant u forms.UnitNode front sites (more p ps)).pieces ≡ Fs →
    Each (λ (F : typed_specs.Function). IsValidFunction P (function_of F)) Fs →
    UnitGrown (behind u p) (behind_parts (behind u p) forms.UnitNode false ps) →
    (AllTables (behind u p).tables → AllTables (behind_parts (behind u p) forms.UnitNode false ps).tables) →
    AllValid P (functions_in (parts_meant u forms.UnitNode front sites (more p ps)).pieces) u
    (behind_parts u forms.UnitNode front (more p ps))
valid_next P u front sites p ps Fs g t e v g' t' =
    subst (λ z. AllValid P (functions_in (parts_meant u forms.UnitNode front sites (more p ps)).pieces) u z)
    (sym (unit_behind_next u front p ps))
    (record {
      functions' = subst (Each (λ (F : typed_specs.Function). IsValidFunction P (function_of F))) (sym e) v;
      tables' = λ h. t' (t h);
      grown' = unit_then u (behind u p) (behind_parts (behind u p) forms.UnitNode false
          ps) g g';
    })

prototype_tables : {asked : Asked} (u : Env) (sites : List Place) (w : List ℕ) (f l : ℕ) (parts : Forest)
    (fo : Fore asked (in_prototype u) sites true parts) → OneScope u → AllTables u.tables →
    AllTables (behind u (node forms.PrototypeNode w f l parts)).tables
prototype_tables {asked} u sites w f l parts fo o h =
    subst (λ (z : Env). AllTables z.tables) (sym (prototype_leaves asked u sites w f l parts fo))
    (by (prototype_cases u (name_in w) o).1)
  where
    by : (with_prototype u (name_in w) ≡ u) ⊎
        (with_prototype u (name_in w) ≡ environment.declare u (name_in w) (proto_entry u (name_in w))) →
        AllTables (with_prototype u (name_in w)).tables
    by (inl e) = subst (λ (z : Env). AllTables z.tables) (sym e) h
    by (inr e) = subst (λ (z : Env). AllTables z.tables) (sym e) h

-- what the items leave
pub unit_line_rest : (asked : Asked) (u : Env) (items : Forest) (b : Before) → AreItems items →
    SoundParts asked u forms.UnitNode b items → OneScope u → UnitGrown u (behind_parts u forms.UnitNode false items)
unit_line_rest asked u none b h s o = subst (λ z. UnitGrown u z) (sym (unit_none u false []).0) (unit_same u)
unit_line_rest asked u (more (node forms.FunctionNode w f l parts) ps) b (inl h, hs) s o =
    let p = node forms.FunctionNode w f l parts in
    let x = unit_sound_next asked u b p ps s in
    let gr = definition_grown asked u [] w f l parts (front_of asked u [] w f l parts h x.0) in
    subst (λ z. UnitGrown u z) (sym (unit_behind_next u false p ps))
    (unit_then u (behind u p) (behind_parts (behind u p) forms.UnitNode false ps) gr
    (unit_line_rest asked (behind u p) ps (Some (last_of p)) hs x.1 (gr.one o)))
unit_line_rest asked u (more (node forms.PrototypeNode w f l parts) ps) b (inr (inl h), hs) s o =
    let p = node forms.PrototypeNode w f l parts in
    let x = unit_sound_next asked u b p ps s in
    let gr = prototype_grown asked u [] w f l parts (fore_of asked u [] w f l parts h x.0) o in
    subst (λ z. UnitGrown u z) (sym (unit_behind_next u false p ps))
    (unit_then u (behind u p) (behind_parts (behind u p) forms.UnitNode false ps) gr
    (unit_line_rest asked (behind u p) ps (Some (last_of p)) hs x.1 (gr.one o)))
unit_line_rest asked u (more p ps) b (inr (inr h), hs) s o =
    let x = unit_sound_next asked u b p ps s in
    let gr = unit_line asked u p h x.0 o in
    subst (λ z. UnitGrown u z) (sym (unit_behind_next u false p ps))
    (unit_then u (behind u p) (behind_parts (behind u p) forms.UnitNode false ps) gr
    (unit_line_rest asked (behind u p) ps (Some (last_of p)) hs x.1 (gr.one o)))
unit_line_rest asked u (more p ps) b (inl h, hs) s o = absurd h
unit_line_rest asked u (more p ps) b (inr (inl h), hs) s o = absurd h

module _ (P : Program) (asked : Asked) (gs : List Signature) (tabs : List Table) (pt : P.tables ≡ map table_of tabs)
    (called : AllCalled P gs) where
  -- what is visible behind a prototype
  pub prototype_at : (u : Env) (sites : List Place) (w : List ℕ) (f l : ℕ) (parts : Forest)
      (fo : Fore asked (in_prototype u) sites true parts) →
      SoundTree asked u roles.Other (node forms.PrototypeNode w f l parts) → u.functions ≡ gs → OneScope u →
      AtUnit P asked.missing u → AtUnit P asked.missing (behind u (node forms.PrototypeNode w f l parts))
  prototype_at u sites w f l parts fo s g o a =
      subst (λ z. AtUnit P asked.missing z) (sym (prototype_leaves asked u sites w f l parts fo))
      (by (prototype_cases u (name_in w) o).1)
    where
      declared : AtUnit P asked.missing (environment.declare u (name_in w) (proto_entry u (name_in w)))
      declared = unit_named P asked.missing u (environment.declare u (name_in w) (proto_entry u (name_in w)))
          (name_in w) (proto_entry u (name_in w)) o refl refl
          (λ f' q h. meaning_known P f' asked.missing u.functions (name_in w) (definition_of u (name_in w))
          (subst (AllCalled P) (sym g) called) refl (prototype_uncalled asked u sites roles.Other w f l parts fo
          s) q h)
          (defined_scoped (definition_of u (name_in w))) a

      by : (with_prototype u (name_in w) ≡ u) ⊎
          (with_prototype u (name_in w) ≡ environment.declare u (name_in w) (proto_entry u (name_in w))) →
          AtUnit P asked.missing (with_prototype u (name_in w))
      by (inl e) = subst (λ z. AtUnit P asked.missing z) (sym e) a
      by (inr e) = subst (λ z. AtUnit P asked.missing z) (sym e) declared

  pub all_valid : (u : Env) (front : Bool) (sites : List Place) (b : Before) (items : Forest)
      (done : List Signature) → AreItems items → SoundParts asked u forms.UnitNode b items → OneScope u →
      u.functions ≡ gs → gs ≡ done ++ definitions_in items → AtUnit P asked.missing u → u.in_loop ≡ false →
      u.in_switch ≡ false →
      Extends (behind_parts u forms.UnitNode front items).tables tabs →
      AllValid P (functions_in (parts_meant u forms.UnitNode front sites items).pieces) u
      (behind_parts u forms.UnitNode front items)
  all_valid u front sites b none done h s o g gd a il is et =
      subst (λ z. AllValid P (functions_in (parts_meant u forms.UnitNode front sites none).pieces) u z)
      (sym (unit_none u front sites).0) (subst (λ (z : MadeParts). AllValid P (functions_in z.pieces) u u)
      (sym (unit_none u front sites).1) (record { functions' = tt; tables' = λ h. h; grown' = unit_same u }))
  all_valid u front sites b (more (node forms.FunctionNode w f l parts) ps) done (inl h, hs) s o g gd a il is et =
      let p = node forms.FunctionNode w f l parts in
      let x = unit_sound_next asked u b p ps s in
      let fr = front_of asked u sites w f l parts h x.0 in
      let gr = definition_grown asked u sites w f l parts fr in
      let m = behind u p in
      let called' = subst (AllCalled P) (sym g) called in
      let there : definition_of u (name_in w) ≡ None → ⊥ =
      λ e. definition_there (name_in w) 0 done (signature_in w parts) (definitions_in ps)
      (ap (λ z. bytes_eq z (name_in w)) (name_of w parts) ∙
      bytes_same (name_in w)) (ap (definition_from (name_in w) 0) (sym (g ∙ gd)) ∙ e) in
      let kn : (f' : Function) (q : List ℕ) → bytes_eq (name_in w) q ≡ true →
      MeaningFits P f' asked.missing u.functions q (defined_meaning (definition_of u (name_in w))) =
      λ f' q e. meaning_known P f' asked.missing u.functions (name_in w) (definition_of u (name_in w)) called' refl
      (λ z. absurd (there z)) q e in
      let F = typed asked u sites w f l parts fr in
      let v = function_valid asked u sites w f l parts fr P o (a.0 (function_of F)) a.1 (kn (function_of F)) il is in
      let am = subst (λ z. AtUnit P asked.missing z) (sym (function_leaves asked u sites w f l parts fr))
      (unit_named P asked.missing u (with_function u (name_in w)) (name_in w)
      (firm (defined_meaning (definition_of u (name_in w)))) o refl refl kn
      (defined_scoped (definition_of u (name_in w))) a) in
      let et' = subst (λ (z : Env). Extends z.tables tabs) (unit_behind_next u front p ps) et in
      let rec = all_valid m false (meant u sites p).sites (Some (last_of p)) ps (done ++ signature_in w parts ∷ []) hs
      x.1 (gr.one o) (ap (λ z. z.functions) gr.frame ∙ g) (gd ∙
      sym (append_assoc done (signature_in w parts ∷ []) (definitions_in ps))) am
      (ap (λ z. z.in_loop) gr.frame ∙ il) (ap (λ z. z.in_switch) gr.frame ∙ is) et' in
      let rest = parts_meant m forms.UnitNode false (meant u sites p).sites ps in
      valid_next P u front sites p ps (F ∷ functions_in rest.pieces) gr
      (subst AllTables (sym (ap (λ z. z.tables) (function_leaves asked u sites w f l parts fr))))
      (ap (λ (z : MadeParts). functions_in z.pieces) (unit_meant_next u front sites p ps) ∙
      ap (λ (z : Built). function_before z.what (functions_in rest.pieces))
      (function_is asked u sites w f l parts fr))
      (v, rec.functions') rec.grown' rec.tables'
  all_valid u front sites b (more (node forms.PrototypeNode w f l parts) ps) done (
    inr (inl h),
    hs,
  ) s o g gd a il is et =
      let p = node forms.PrototypeNode w f l parts in
      let x = unit_sound_next asked u b p ps s in
      let fo = fore_of asked u sites w f l parts h x.0 in
      let gr = prototype_grown asked u sites w f l parts fo o in
      let m = behind u p in
      let et' = subst (λ (z : Env). Extends z.tables tabs) (unit_behind_next u front p ps) et in
      let rec = all_valid m false (meant u sites p).sites (Some (last_of p)) ps done hs x.1 (gr.one o)
      (ap (λ z. z.functions) gr.frame ∙ g) gd (prototype_at u sites w f l parts fo x.0 g o a)
      (ap (λ z. z.in_loop) gr.frame ∙ il) (ap (λ z. z.in_switch) gr.frame ∙ is) et' in
      let rest = parts_meant m forms.UnitNode false (meant u sites p).sites ps in
      valid_next P u front sites p ps (functions_in rest.pieces) gr (prototype_tables u sites w f l parts fo o)
      (ap (λ (z : MadeParts). functions_in z.pieces) (unit_meant_next u front sites p ps) ∙
      ap (λ (z : Built). function_before z.what (functions_in rest.pieces)) (prototype_built u sites w f l parts))
      rec.functions' rec.grown' rec.tables'
  all_valid u front sites b (more p ps) done (inr (inr h), hs) s o g gd a il is et =
      let x = unit_sound_next asked u b p ps s in
      let ln = constant_line P asked tabs u roles.Other p h x.0 pt o in
      let gr = ln.grown in
      let m = behind u p in
      let nd = no_definition p ps h in
      let et' = subst (λ (z : Env). Extends z.tables tabs) (unit_behind_next u front p ps) et in
      let rest = parts_meant m forms.UnitNode false (meant u sites p).sites ps in
      let sub = unit_line_rest asked m ps (Some (last_of p)) hs x.1 (gr.one o) in
      let am = ln.at (extends_then m.tables (behind_parts m forms.UnitNode false ps).tables tabs sub.tables et') a in
      let rec = all_valid m false (meant u sites p).sites (Some (last_of p)) ps done hs x.1 (gr.one o)
      (ap (λ z. z.functions) gr.frame ∙ g) (gd ∙ ap (λ z. done ++ z) nd.0) am (ap (λ z. z.in_loop) gr.frame ∙
      il) (ap (λ z. z.in_switch) gr.frame ∙ is) et' in
      valid_next P u front sites p ps (functions_in rest.pieces) gr ln.valid
      (ap (λ (z : MadeParts). functions_in z.pieces) (unit_meant_next u front sites p ps) ∙
      declaration_what u sites p (functions_in rest.pieces) h)
      rec.functions' rec.grown' rec.tables'
  all_valid u front sites b (more p ps) done (inl h, hs) s o g gd a il is et = absurd h
  all_valid u front sites b (more p ps) done (inr (inl h), hs) s o g gd a il is et = absurd h
