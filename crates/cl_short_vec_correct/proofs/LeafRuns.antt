-- The lines of the leaves of a statement, in order, stand for their steps, whatever stands behind them.
use Rattle.std.proofs.Common.{◌≡◌, ℕ, suc, ◌+◌, ◌≤◌, ◌<◌, pos, List, [], ◌∷◌, ◌++◌, length, Option, Some, false}
use Rattle.std.proofs.Common.{refl, ap, sym, ◌∙◌, subst, inl, inr, ◌⊎◌, arith}
use Rattle.wg_num.specs.declared.types.Place.{Place as Position}
use Rattle.cl_model.specs.Tree as tree
use Rattle.cl_model.specs.Tree.{Program, Function, Statements, also}
use Rattle.cl_model.specs.Lists.{Each, IsOneOf}
use Rattle.cl_model.specs.Valid.{Scope}
use Rattle.cl_tree.specs.declared.tree.Form.TheVariants as forms
use Rattle.cl_tree.specs.Syntax.{Syntax, Forest, more, last_of}
use Rattle.cl_meaning.specs.declared.kind.Role.TheVariants as roles
use Rattle.cl_meaning.specs.Environment.{Env, Variable, Array}
use Rattle.cl_meaning.specs.Visible.{Before, behind, behind_parts}
use Rattle.cl_meaning.specs.Faults.{Asked}
use Rattle.cl_meaning.specs.Typed.{lines}
use Rattle.cl_meaning.specs.Statements.{alone, followed, all_lines, lines_of as lines_in}
use Rattle.cl_meaning.specs.Meant.{meant, parts_meant}
use Rattle.cl_check_sound.specs.Shape.{IsDeclaration, IsStatement, AreLines}
use Rattle.cl_check_sound.specs.Sound.{SoundParts}
use Rattle.cl_check_sound.proofs.Naming.{Scoped}
use Rattle.cl_check_sound.proofs.Grown.{Extends, extends_then, Within, within_later}
use Rattle.cl_check_sound.proofs.Growth.{declaration_grows}
use Rattle.cl_check_sound.proofs.Growing.{StatementGrows, LinesGrow, SwitchGrows, growing}
use Rattle.cl_check_sound.proofs.Facing.{Finals, At}
use Rattle.cl_check_sound.proofs.Declarators.{declaration_line}
use Rattle.cl_check_sound.proofs.Induction.{of_lines}
use Rattle.cl_check_sound.proofs.Parts.{line_sound, line_behind, line_meant}
use Rattle.cl_short_vec.specs.Marks.{Mark}
use Rattle.cl_short_vec.specs.Order.{Step, Offset, Number, Copy, Load, Set, Store}
use Rattle.cl_short_vec.specs.Parts.{Assigned}
use Rattle.cl_short_vec.specs.Unit.{line_of, lines_of}
use Rattle.cl_short_vec_correct.specs.Values.{Leaves, Worth}
use Rattle.cl_short_vec_correct.specs.Doing.{Got}
use Rattle.cl_short_vec_correct.specs.Emits.{Known, knows, Emits}
use Rattle.cl_short_vec_correct.proofs.Slots.{with_slot}
use Rattle.cl_short_vec_correct.proofs.StepFits.{LeafFits, Ordered, all_done}
use Rattle.cl_short_vec_correct.proofs.Running.{Pointed, Done, Running, runs_on}
use Rattle.cl_short_vec_correct.proofs.LeafLines.{LeafLine, number_leaf, copy_leaf, load_leaf, offset_leaf}

-- ---- steps

pub ordered_next : (s : Step) (done ss : List Step) → Ordered done (s ∷ ss) → Ordered (s ∷ done) ss
ordered_next (Offset m) done ss h = h
ordered_next (Number of m) done ss h = h
ordered_next (Copy of x c) done ss h = h
ordered_next (Load m c) done ss h = h.1
ordered_next (Set x c j) done ss h = h
ordered_next (Store m c j) done ss h = h

-- where an element stands is known
pub pointed_of : {start env : Env} {known : List Known} {got : Got} (done : List Step) (m : Mark) →
    IsOneOf done (Offset m) → Each (Done start env known got) done → Pointed start env known got m
pointed_of [] m i h = absurd i
pointed_of {start} {env} {known} {got} (s ∷ ss) m (inl e) h = subst (Done start env known got) e h.0
pointed_of (s ∷ ss) m (inr i) h = pointed_of ss m i h.1

-- the line of a leaf is a declaration
leaf_declares : (start : Env) (type : Option Mark) (a : Assigned) (s : Step) → LeafFits start s →
    (IsDeclaration (line_of type a s) ⊎ IsStatement (line_of type a s)) → IsDeclaration (line_of type a s)
leaf_declares start type a (Offset m) f (inl h) = h
leaf_declares start type a (Offset m) f (inr h) = absurd h
leaf_declares start type a (Number of m) f (inl h) = h
leaf_declares start type a (Number of m) f (inr h) = absurd h
leaf_declares start type a (Copy of x c) f (inl h) = h
leaf_declares start type a (Copy of x c) f (inr h) = absurd h
leaf_declares start type a (Load m c) f (inl h) = h
leaf_declares start type a (Load m c) f (inr h) = absurd h
leaf_declares start type a (Set x c j) f h = absurd f
leaf_declares start type a (Store m c j) f h = absurd f

none_more : (n : ℕ) → n + 0 ≡ n
none_more n = omega arith

counted : (n m k x : ℕ) → m ≡ suc n → x ≡ m + k → x ≡ n + suc k
counted n m k x e h = omega arith

-- ---- lines

-- a line that is one declaration, in front of others
pub in_front : (env : Env) (sites : List Position) (p : Syntax) (ps : Forest) (s : tree.Statement) →
    (meant env sites p).piece.what ≡ lines (alone s) →
    all_lines (parts_meant env forms.BlockNode false sites (more p ps)).pieces ≡
    also s (all_lines (parts_meant (behind env p) forms.BlockNode false (meant env sites p).sites ps).pieces)
in_front env sites p ps s h =
    ap (λ z. all_lines z.pieces) (line_meant env false sites p ps) ∙
    ap (λ z. followed (lines_in z)
    (all_lines (parts_meant (behind env p) forms.BlockNode false (meant env sites p).sites ps).pieces)) h

module _ (P : Program) (g : Function) (asked : Asked) (vars : List Variable) (arrs : List Array)
    (fin : Finals g vars arrs) where
  -- Lines of a block of a function stand where `env` is visible: all of it fits the program, no node of them is at
  -- fault, and what is declared up to their end is declared in the function.
  pub record Place (env : Env) (ls : Forest) : Type 0 where
    pub scope : Scope
    pub before : Before
    pub at : At P g asked.missing scope env
    pub within : Within env
    pub sound : SoundParts asked env forms.BlockNode before ls
    pub shaped : AreLines ls
    pub variables : Extends (behind_parts env forms.BlockNode false ls).variables vars
    pub arrays : Extends (behind_parts env forms.BlockNode false ls).arrays arrs

  -- the lines behind a declaration
  pub next_place : (env : Env) (p : Syntax) (ps : Forest) → IsDeclaration p → Place env (more p ps) →
      Place (behind env p) ps
  next_place env p ps h q =
      let s = line_sound asked env q.before p ps q.sound in
      let grown = declaration_grows asked env roles.Other p h s.0 q.within.deep in
      let within = within_later env (behind env p) q.within grown in
      let rest = of_lines asked StatementGrows LinesGrow SwitchGrows (growing asked) (behind env p) []
      (Some (last_of p)) ps q.shaped.1 s.1 within false in
      let variables = subst (λ (z : Env). Extends z.variables vars) (line_behind env false p ps) q.variables in
      let arrays = subst (λ (z : Env). Extends z.arrays arrs) (line_behind env false p ps) q.arrays in
      let line = declaration_line P g asked vars arrs q.scope env [] roles.Other p h s.0 q.within.deep q.at fin
      (extends_then (behind env p).variables (behind_parts (behind env p) forms.BlockNode false ps).variables vars
      rest.variables variables) (extends_then (behind env p).arrays
      (behind_parts (behind env p) forms.BlockNode false ps).arrays arrs rest.arrays arrays) in
      record {
        scope = line.scope';
        before = Some (last_of p);
        at = line.at;
        within = within;
        sound = s.1;
        shaped = q.shaped.1;
        variables = variables;
        arrays = arrays;
      }

  -- lines of a block add variables behind those that are there
  lines_extend : (env : Env) (ls : Forest) → Place env ls →
      Extends env.variables (behind_parts env forms.BlockNode false ls).variables
  lines_extend env ls q = (of_lines asked StatementGrows LinesGrow SwitchGrows (growing asked) env [] q.before ls
      q.shaped q.sound q.within false).variables

  -- and leave the function in which they stand
  pub lines_owner : (env : Env) (ls : Forest) → Place env ls →
      (behind_parts env forms.BlockNode false ls).owner ≡ env.owner
  lines_owner env ls q = ap (λ z. z.owner) (of_lines asked StatementGrows LinesGrow SwitchGrows (growing asked) env []
      q.before ls q.shaped q.sound q.within false).frame

  module _ (start later : Env) (scope : Scope) (helps : ℕ → Type 0) (result : Leaves → Worth) (limit : ℕ)
      (plain : start.flags ≡ false) (seen : Scoped scope start)
      (below : Each (λ x. x < length start.variables) scope)
      (help : (y : ℕ) → length start.variables ≤ y → y < limit → helps y)
      (type : Option Mark) (a : Assigned) where
    abbrev pub Stands : List Known → Got → List Step → Env → List Position → Forest → Type 0
    Stands known got ss env sites ls = Emits start later helps result known got ss
        (all_lines (parts_meant env forms.BlockNode false sites ls).pieces)

    -- the line of a leaf in front of others
    leaf_line : (s : Step) (done ss : List Step) (env : Env) (sites : List Position) (known : List Known) (got : Got)
        (ls : Forest) → Ordered done (s ∷ ss) → LeafFits start s → Running start env known got done →
        Place env (more (line_of type a s) ls) → length env.variables < limit →
        Extends (behind env (line_of type a s)).variables later.variables →
        LeafLine asked start later scope helps result plain seen below env sites known got s (line_of type a s)
    leaf_line (Offset m) done ss env sites known got ls o f r q l x =
        offset_leaf asked start later scope helps result plain seen below env sites known got done roles.Other r
        (help (length env.variables) r.more l) P g q.at.fits m f.0 f.1 f.2 q.sound.0
    leaf_line (Number of m) done ss env sites known got ls o f r q l x =
        number_leaf asked start later scope helps result plain seen below env sites known got done roles.Other r
        (help (length env.variables) r.more l) of m f.0 f.1 q.sound.0 x
    leaf_line (Copy of x c) done ss env sites known got ls o f r q l b =
        copy_leaf asked start later scope helps result plain seen below env sites known got done roles.Other r
        (help (length env.variables) r.more l) of x c f q.sound.0 b
    leaf_line (Load m c) done ss env sites known got ls o f r q l x =
        load_leaf asked start later scope helps result plain seen below env sites known got done roles.Other r
        (help (length env.variables) r.more l) m c (pointed_of done m o.0 r.held) f.1 q.sound.0
    leaf_line (Set x c j) done ss env sites known got ls o f r q l b = absurd f
    leaf_line (Store m c j) done ss env sites known got ls o f r q l x = absurd f

    -- what is declared up to the end of the lines is declared up to `later`
    abbrev Ends : Env → Forest → Type 0
    Ends env ls = Extends (behind_parts env forms.BlockNode false ls).variables later.variables

    -- the same for the lines behind the first one
    ends_next : (env : Env) (p : Syntax) (ps : Forest) → Ends env (more p ps) → Ends (behind env p) ps
    ends_next env p ps x = subst (λ (z : Env). Extends z.variables later.variables) (line_behind env false p ps) x

    -- and for what the first one declares
    line_ends : (env : Env) (p : Syntax) (ps : Forest) → Place (behind env p) ps → Ends env (more p ps) →
        Extends (behind env p).variables later.variables
    line_ends env p ps q x = extends_then (behind env p).variables
        (behind_parts (behind env p) forms.BlockNode false ps).variables later.variables
        (lines_extend (behind env p) ps q) (ends_next env p ps x)

    -- the leaves' lines in front of other lines that stand for the steps behind them
    pub leaves_run : (ss done : List Step) (env : Env) (sites : List Position) (known : List Known) (got : Got)
        (rest : List Step) → Ordered done ss → Each (LeafFits start) ss → Running start env known got done →
        Place env (lines_of type a (ss ++ rest)) → length env.variables + length ss ≤ limit →
        Ends env (lines_of type a (ss ++ rest)) →
        ((env' : Env) (sites' : List Position) (known' : List Known) (got' : Got) →
        Running start env' known' got' (all_done ss done) → Place env' (lines_of type a rest) →
        length env'.variables ≡ length env.variables + length ss →
        behind_parts env forms.BlockNode false (lines_of type a (ss ++ rest)) ≡
        behind_parts env' forms.BlockNode false (lines_of type a rest) →
        Stands known' got' rest env' sites' (lines_of type a rest)) →
        Stands known got (ss ++ rest) env sites (lines_of type a (ss ++ rest))
    leaves_run [] done env sites known got rest o f r q l x k = k env sites known got r q
        (sym (none_more (length env.variables))) refl
    leaves_run (s ∷ ss) done env sites known got rest o f r q l x k =
        let p = line_of type a s in
        let ps = lines_of type a (ss ++ rest) in
        let d = leaf_declares start type a s f.0 q.shaped.0 in
        let next = next_place env p ps d q in
        let line = leaf_line s done ss env sites known got ps o f.0 r q (omega arith) (line_ends env p ps next x) in
        let more_by = line.adds.variables in
        subst (λ z. Emits start later helps result known got (s ∷ (ss ++ rest)) z)
        (sym (in_front env sites p ps (tree.Declare (length env.variables) (Some line.place)) line.what))
        (line.emit (ss ++ rest)
        (all_lines (parts_meant (behind env p) forms.BlockNode false (meant env sites p).sites ps).pieces)
        (λ v h. leaves_run ss (s ∷ done) (behind env p) (meant env sites p).sites
        (knows (length env.variables) v known) (with_slot got line.slot v) rest (ordered_next s done ss o) f.1
        (runs_on start env (behind env p) known got line.slot line.meaning v line.adds line.new s done r
        (line.after v h)) next (omega arith) (ends_next env p ps x)
        (λ env' sites' known' got' r' q' e b. k env' sites' known' got' r' q'
        (counted (length env.variables) (length (behind env p).variables) (length ss) (length env'.variables) more_by
        e) (line_behind env false p ps ∙ b))))

    -- where the leaves' lines lead
    pub record Reached (ss done : List Step) (env : Env) (rest : List Step) : Type 0 where
      pub env' : Env
      pub known : List Known
      pub got : Got
      pub running : Running start env' known got (all_done ss done)
      pub place : Place env' (lines_of type a rest)
      pub count : length env'.variables ≡ length env.variables + length ss
      pub behind' : behind_parts env forms.BlockNode false (lines_of type a (ss ++ rest)) ≡
          behind_parts env' forms.BlockNode false (lines_of type a rest)

    pub leaves_reach : (ss done : List Step) (env : Env) (known : List Known) (got : Got) (rest : List Step) →
        Ordered done ss → Each (LeafFits start) ss → Running start env known got done →
        Place env (lines_of type a (ss ++ rest)) → length env.variables + length ss ≤ limit →
        Ends env (lines_of type a (ss ++ rest)) → Reached ss done env rest
    leaves_reach [] done env known got rest o f r q l x = record {
      env' = env;
      known = known;
      got = got;
      running = r;
      place = q;
      count = sym (none_more (length env.variables));
      behind' = refl;
    }
    leaves_reach (s ∷ ss) done env known got rest o f r q l x =
        let p = line_of type a s in
        let ps = lines_of type a (ss ++ rest) in
        let d = leaf_declares start type a s f.0 q.shaped.0 in
        let next = next_place env p ps d q in
        let line = leaf_line s done ss env [] known got ps o f.0 r q (omega arith) (line_ends env p ps next x) in
        let more_by = line.adds.variables in
        let z = leaves_reach ss (s ∷ done) (behind env p) (knows (length env.variables) (pos 0) known)
        (with_slot got line.slot (pos 0)) rest (ordered_next s done ss o) f.1
        (runs_on start env (behind env p) known got line.slot line.meaning (pos 0) line.adds line.new s done r
        (line.after (pos 0) line.zero)) next (omega arith) (ends_next env p ps x) in record {
          env' = z.env';
          known = z.known;
          got = z.got;
          running = z.running;
          place = z.place;
          count = counted (length env.variables) (length (behind env p).variables) (length ss) (length z.env'.variables)
              more_by z.count;
          behind' = line_behind env false p ps ∙ z.behind';
        }
