-- The walk that folds lines computes only what may be computed: what is asked of the lines, line by line.
use Rattle.std.proofs.Common.{◌≡◌, ℕ, zero, suc, ◌+◌, ◌<◌, List, [], ◌∷◌, ◌++◌, Some, length}
use Rattle.std.proofs.Common.{get_or, slice_get, drop, refl, sym, ap, ◌∙◌, subst, Global}
use Rattle.std.specs.Prelude.{Bool as Test, true}
use Rattle.std.specs.declared.vec.Vec.{Vec}
use mathlib.Core.Path.{fun_ext}
use Rattle.std.proofs.lemmas.Bool.{true≢false}
use Rattle.std.proofs.lemmas.Option.{same_Some, none-some}
use Rattle.wg_num.specs.declared.types.IntType.{IntType}
use Rattle.wg_num.specs.Wrap.{IsValue}
use Rattle.kir.specs.declared.line.Atom.{Atom}
use Rattle.kir.specs.declared.line.Atom.TheVariants.{Const, Cell as CellAtom}
use Rattle.kir.specs.declared.line.Line.{Line}
use Rattle.kir.specs.declared.line.Line.TheVariants as line
use Rattle.kir.specs.Tree.{Work, Lines, NoLine, SetThen}
use Rattle.kir.specs.Listed.{line_before, lines_of}
use Rattle.kir.proofs.CellTypes.{zero_value}
use Rattle.kir.proofs.Firsts.{first_left}
use Rattle.kir.proofs.Rows.{if_listed, loop_listed}
use Rattle.kir_simplify.specs.Computable.{IsValueOf, AreValuesOf, AreComputable}
use Rattle.kir_simplify.specs.Passes.{Known, constant_value, known_work, settled_work, learnt, with_offsets}
use Rattle.kir_simplify.specs.Tables.{is_bare}

-- ---- tables with an entry more

pub default_more : {A : Type 0} (xs : List A) (d : A) (c : ℕ) → get_or (xs ++ d ∷ []) c d ≡ get_or xs c d
default_more [] d zero = refl
default_more [] d (suc c) = refl
default_more (x ∷ xs) d zero = refl
default_more (x ∷ xs) d (suc c) = default_more xs d c

pub default_step : {A : Type 0} (old mid new : List A) (d : A) → new ≡ mid ++ d ∷ [] →
    ((c : ℕ) → get_or mid c d ≡ get_or old c d) → (c : ℕ) → get_or new c d ≡ get_or old c d
default_step old mid new d e h c = ap (λ xs. get_or xs c d) e ∙ (default_more mid d c ∙ h c)

-- ---- arguments

pub value_of_constant : (t : IntType) (a : Atom) → IsValueOf t a → IsValue t (constant_value a)
value_of_constant t (Const value of) v = v
value_of_constant t (CellAtom c) v = zero_value t

pub value_there : (t : IntType) (args : List Atom) (n : ℕ) (a : Atom) → AreValuesOf t args → slice_get args n ≡ Some a →
    IsValue t (constant_value a)
value_there t [] n a v h = absurd (none-some a h)
value_there t (b ∷ args) zero a v h =
    subst (λ x. IsValue t (constant_value x)) (same_Some b a h) (value_of_constant t b v.0)
value_there t (b ∷ args) (suc n) a v h = value_there t args n a v.1 h

-- ---- lines

module _ (once : ℕ → Test) (os : ℕ → Test) where
  abbrev Asked : Known → Lines → Type 0
  Asked = AreComputable once os

  pub first_asked : (known : Known) (l : Line) (rest : Lines) → Asked known (line_before l rest) →
      Asked known (line_before l NoLine)
  first_asked known (line.Set to w) rest h = (h.0, tt)
  first_asked known (line.Load site to element root index) rest h = tt
  first_asked known (line.Store site element root index from) rest h = tt
  first_asked known (line.Clear array) rest h = tt
  first_asked known (line.If' site test _ chosen _ other) rest h = (h.0, h.1, tt)
  first_asked known (line.Loop' site first _ test answer _ body) rest h = (h.0, h.1, tt)
  first_asked known (line.Barrier site) rest h = tt

  -- the line that comes next, and those behind it
  pub next_asked : (known : Known) (ls : List Line) (i : ℕ) (l : Line) → i < length ls → l ≡ get_or ls i l →
      Asked known (lines_of (drop i ls)) → Asked known (line_before l (lines_of (drop (i + 1) ls)))
  next_asked known ls i l lt is = subst (λ xs. Asked known (lines_of xs)) (first_left ls i l lt is)

  pub bare_asked : (known : Known) (l : Line) (rest : Lines) → is_bare l ≡ true → Asked known (line_before l rest) →
      Asked known rest
  bare_asked known (line.Set to w) rest b h = absurd (true≢false (sym b))
  bare_asked known (line.Load site to element root index) rest b h = h
  bare_asked known (line.Store site element root index from) rest b h = h
  bare_asked known (line.Clear array) rest b h = h
  bare_asked known (line.If' site test _ chosen _ other) rest b h = absurd (true≢false (sym b))
  bare_asked known (line.Loop' site first _ test answer _ body) rest b h = absurd (true≢false (sym b))
  bare_asked known (line.Barrier site) rest b h = h

  pub same_asked : (known new : Known) (ls : Lines) → ((c : ℕ) → new c ≡ known c) → Asked known ls → Asked new ls
  same_asked known new ls e = subst (λ (k : Known). Asked k ls) (sym (fun_ext e))

  pub set_asked : (known new : Known) (to : ℕ) (work made : Work) → made ≡ settled_work (known_work known work) →
      ((c : ℕ) → new c ≡ learnt once known to made c) → (rest : Lines) → Asked known (SetThen to work rest) →
      Asked new rest
  set_asked known new to work made e h rest a =
      same_asked (learnt once known to (settled_work (known_work known work))) new rest
      (λ c. h c ∙ ap (λ w. learnt once known to w c) e) a.1

  -- what an if asks
  pub if_asked : (known : Known) (l : Line) (site : ℕ) (test : Atom) (chosen other : Vec Line Global) →
      l ≡ line.If site test chosen other → (rest : Lines) → Asked known (line_before l rest) →
      Asked known (lines_of chosen.items) × Asked known (lines_of other.items) × Asked known rest
  if_asked known l site test chosen other e rest =
      subst (Asked known) (ap (λ x. line_before x rest) e ∙ if_listed site test chosen other rest)

  pub loop_asked : (known : Known) (l : Line) (site : ℕ) (first : Test) (test : Vec Line Global) (answer : Atom)
      (body : Vec Line Global) → l ≡ line.Loop site first test answer body → (rest : Lines) →
      Asked known (line_before l rest) →
      Asked (with_offsets os known) (lines_of test.items) × Asked (with_offsets os known) (lines_of body.items) ×
      Asked known rest
  loop_asked known l site first test answer body e rest =
      subst (Asked known) (ap (λ x. line_before x rest) e ∙ loop_listed site first test answer body rest)
