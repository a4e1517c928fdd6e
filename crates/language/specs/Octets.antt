-- Document 01: "A text is bytes, each 8 bits." The strings of a state, of definitions and of an end are such.
use Rattle.std.specs.Prelude.{◌<◌}
use Rattle.language.specs.Signs.{Bytes}
use Rattle.language.specs.Definitions.{Content, macro, built_in, Definition}
use Rattle.language.specs.Ends.{End}
use Rattle.language.specs.Scanning.{Call, Body, State}
use Rattle.language.specs.Matched.{All}

-- a string of bytes
abbrev pub Octets : Bytes → Type 0
Octets bs = All (λ b. b < 256) bs

-- a call being collected
pub record CallOctets (c : Call) : Type 0 where
  pub ended : All Octets c.ended
  pub hand : Octets c.hand

-- a body being read
pub record BodyOctets (B : Body) : Type 0 where
  pub list : All Octets B.list
  pub rest : Octets B.rest

-- a macro's value; a built-in has none
abbrev pub ContentOctets : Content → Type 0
ContentOctets (macro x) = Octets x.value
ContentOctets (built_in b) = Unit {0}

-- a definition
pub record DefinitionOctets (d : Definition) : Type 0 where
  pub name : Octets d.name
  pub content : ContentOctets d.content

-- every string that a state holds
pub record HoldsOctets (s : State) : Type 0 where
  pub text : Octets s.text
  pub calls : All CallOctets s.calls
  pub bodies : All BodyOctets s.bodies
  pub definitions : All DefinitionOctets s.standing.definitions
  pub output : Octets s.standing.output

-- and every string that an end reports
pub record EndsOctets (e : End) : Type 0 where
  pub definitions : All DefinitionOctets e.definitions
  pub output : Octets e.output
