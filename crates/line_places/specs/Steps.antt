-- Headers gathered token by token, as the pass goes; no public promise speaks of it.
use Rattle.std.specs.Prelude.{Bool, true, false, List, [], ◌∷◌, if◌then◌else◌}
use Rattle.octets.specs.Words.{◌and◌, ◌<?◌}
use Rattle.names.specs.Reserved.{reserved}
use Rattle.headers.specs.declared.Headers.{Headers}
use Rattle.envelope.specs.Texts.{no_headers, with_header}
use Rattle.tokens.specs.Tokens.{Token, others}
use Rattle.line_places.specs.Headers.{short_value, header_of, headers_fit, headers_of}

-- headers that fit into their arrays, or none
pub record Gathered : Type 0 where
  pub fit : Bool
  pub headers : Headers

abbrev pub fitting : Headers → Gathered
fitting h = record { fit = true; headers = h }

abbrev pub unfit : Gathered
unfit = record { fit = false; headers = no_headers }

-- the headers, and one token more
unfoldable pub push_of : Headers → Token → Gathered
push_of h t =
    if reserved t.key then fitting h
    else if h.count <? 8 and short_value t then fitting (with_header h (header_of t))
    else unfit

-- the headers, and all tokens; one that does not fit ends it
unfoldable pub gather : Gathered → List Token → Gathered
gather r [] = r
gather r (t ∷ ts) = if r.fit then gather (push_of r.headers t) ts else r

-- what they come to: the tokens whose keys are not reserved, where they fit
unfoldable pub gathered_of : List Token → Gathered
gathered_of ts = if headers_fit ts then fitting (headers_of (others ts)) else unfit
