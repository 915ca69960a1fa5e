-- What the Rust values of sentences stand for.
use Rattle.std.specs.Prelude.{List, map, Option, Some, None}
use Rattle.vern_grammar.specs.Trees.{Name, Group}
use Rattle.vern_sentence.specs.Trees as made
use Rattle.vern_sentence.specs.Words as word
use Rattle.vern_parse.specs.declared.raw.RawName.{RawName}
use Rattle.vern_parse.specs.declared.raw.Raw.{Raw}
use Rattle.vern_parse.specs.declared.raw.Raw.TheVariants.{Declare, Define, Begin, ProofWord, Refinement, Bullet, BraceIn, BraceOut, Close}
use Rattle.vern_parse.specs.declared.raw.RawTac.{RawTac}
use Rattle.vern_parse.specs.declared.raw.RawTac.TheVariants as tactic
use Rattle.vern_parse.specs.declared.raw.Closer.{Closer}
use Rattle.vern_parse.specs.declared.raw.Closer.TheVariants as closer
use Rattle.vern_parse.specs.declared.words.Command.{Command}
use Rattle.vern_parse.specs.declared.words.Command.TheVariants as command
use Rattle.vern_parse.specs.declared.words.Tactic.{Tactic}
use Rattle.vern_parse.specs.declared.words.Tactic.TheVariants as tactics
use Rattle.vern_parse.specs.declared.words.Sign.{Sign}
use Rattle.vern_parse.specs.declared.words.Sign.TheVariants as sign
use Rattle.vern_parse.specs.declared.raw.RawGroup.{RawGroup}
use Rattle.std.specs.Global.{Vec}
use Rattle.vern_parse.specs.Meaning.{name, group, expression, shape}

-- ---- trees

-- a name that there may be
abbrev pub maybe_name : Option RawName → Option Name
maybe_name None = None
maybe_name (Some x) = Some (name x)

-- names
abbrev pub names_of : Vec RawName → List Name
names_of xs = map name xs.items

-- groups
abbrev pub groups_of : Vec RawGroup → List Group
groups_of gs = map group gs.items

-- how a proof is closed
abbrev pub closing : Closer → made.Closer
closing closer.Qed = made.qed
closing closer.Defined = made.defined
closing closer.Admitted = made.admitted
closing closer.Abort = made.abort

-- a refinement
abbrev pub refinement : RawTac → made.Refinement
refinement (tactic.Intro x) = made.intro (maybe_name x)
refinement (tactic.Intros xs) = made.intros (names_of xs)
refinement (tactic.Exact t) = made.exact (expression t)
refinement tactic.Assumption = made.by_hypothesis
refinement (tactic.Apply t) = made.apply (expression t)
refinement tactic.Split = made.split
refinement tactic.Left = made.left
refinement tactic.Right = made.right
refinement (tactic.Exists t) = made.exists (expression t)
refinement (tactic.DestructAnd t x y) = made.destruct_both (expression t) (name x) (name y)
refinement (tactic.DestructOr t x y) = made.destruct_either (expression t) (name x) (name y)
refinement (tactic.DestructFalse t) = made.destruct_none (expression t)
refinement tactic.Exfalso = made.exfalso
refinement (tactic.Assert x t) = made.assert (name x) (expression t)
refinement (tactic.Clear x) = made.clear (name x)
refinement tactic.Reflexivity = made.reflexivity
refinement tactic.Symmetry = made.symmetry
refinement (tactic.Rewrite t back) = made.rewrite (expression t) back
refinement (tactic.Unfold x place) = made.unfold_in (name x) (maybe_name place)

-- a sentence
abbrev pub sentence : Raw → made.Sentence
sentence (Declare x s) = made.declare (name x) (shape s)
sentence (Define x gs sort t) = made.define (name x) (groups_of gs) (maybe_name sort) (expression t)
sentence (Begin x t) = made.begin (name x) (expression t)
sentence ProofWord = made.proof_word
sentence (Refinement r) = made.refinement (refinement r)
sentence (Bullet byte count) = made.bullet byte count
sentence BraceIn = made.brace_in
sentence BraceOut = made.brace_out
sentence (Close c) = made.close (closing c)

-- ---- what the code tells apart

-- the word that begins a sentence
abbrev pub command_word : Command → word.Word
command_word command.Parameter = word.parameter
command_word command.Axiom = word.axiom_word
command_word command.Definition = word.definition
command_word command.Lemma = word.lemma
command_word command.Theorem = word.theorem
command_word command.Proof = word.proof
command_word command.Qed = word.qed
command_word command.Defined = word.defined
command_word command.Admitted = word.admitted
command_word command.Abort = word.abort

-- the word that begins a refinement
abbrev pub tactic_word : Tactic → word.Word
tactic_word tactics.Intro = word.intro
tactic_word tactics.Intros = word.intros
tactic_word tactics.Exact = word.exact
tactic_word tactics.Assumption = word.by_hypothesis
tactic_word tactics.Apply = word.apply
tactic_word tactics.Split = word.split
tactic_word tactics.Left = word.left
tactic_word tactics.Right = word.right
tactic_word tactics.Destruct = word.destruct
tactic_word tactics.Exfalso = word.exfalso
tactic_word tactics.Assert = word.assert
tactic_word tactics.Clear = word.clear
tactic_word tactics.Reflexivity = word.reflexivity
tactic_word tactics.Symmetry = word.symmetry
tactic_word tactics.Rewrite = word.rewrite
tactic_word tactics.Unfold = word.unfold_word

-- a sign
abbrev pub sign_of : Sign → word.Sign
sign_of sign.FullStop = word.full_stop
sign_of sign.Define = word.define
sign_of sign.As = word.as_word
sign_of sign.In = word.in_word
sign_of sign.LeftBracket = word.left_bracket
sign_of sign.RightBracket = word.right_bracket
sign_of sign.Bar = word.bar
sign_of sign.BackArrow = word.back_arrow
sign_of sign.Arrow = word.arrow
sign_of sign.Colon = word.colon
sign_of sign.LeftParenthesis = word.opening
sign_of sign.Prop = word.prop_word
