-- Document 01, "The datagram": the smallest datagram, and one as long as any.
use Rattle.std.specs.Prelude.{ℕ, List, [], ◌∷◌, ◌++◌, replicate, negsuc, Some, None}
use Rattle.envelope.specs.Texts.{call_text, address_text, stream_text, header_text, no_headers}
use Rattle.headers.specs.declared.Header.{Header}
use Rattle.layout.specs.declared.Datagram.{Datagram}
use Rattle.layout.specs.Texts.{hop_array}
use Rattle.layout.specs.Layout.{header_array}

-- 0700003765316633613203006D404100000000
abbrev pub smallest : List ℕ
smallest =
    0x07 ∷ 0x00 ∷ 0x00 ∷ 0x37 ∷ 0x65 ∷ 0x31 ∷ 0x66 ∷ 0x33 ∷ 0x61 ∷ 0x32 ∷ 0x03 ∷ 0x00 ∷ 0x6D ∷ 0x40 ∷ 0x41 ∷ 0x00 ∷ 0x00 ∷ 0x00 ∷ 0x00 ∷ []

-- id 7e1f3a2, destination m@A, and nothing else
abbrev pub smallest_message : Datagram
smallest_message = record {
  fields = record {
    id = 0x7E1F3A2;
    salt = None;
    ttl = None;
    src = None;
    fragment = None;
    stream = None;
    headers = no_headers;
    dst = address_text (0x6D ∷ 0x40 ∷ 0x41 ∷ []);
  };
  link = None;
  flood = None;
  route = None;
  hops = None;
}

-- every field there, and each as long as it may be: callsigns AAAAAAAAA-15, keys of 32 bytes that end in 1 to 8
abbrev pub long_call : List ℕ
long_call = replicate 9 0x41 ++ (0x2D ∷ 0x31 ∷ 0x35 ∷ [])

abbrev pub long_header : ℕ → Header
long_header digit = header_text (replicate 31 0x6B ++ (digit ∷ [])) (replicate 128 0x76)

abbrev pub longest_message : Datagram
longest_message = record {
  fields = record {
    id = 0xFFFFFFF;
    salt = Some (negsuc 0);
    ttl = Some 2147483647;
    src = Some (call_text long_call);
    fragment = Some (record { mid = 0; index = 1; total = 65535 });
    stream = Some (record { sid = stream_text (replicate 255 0x73); sn = 4294967295; gt = 0 });
    headers = header_array (long_header 0x31 ∷ long_header 0x32 ∷ long_header 0x33 ∷ long_header 0x34 ∷ long_header 0x35 ∷ long_header 0x36 ∷ long_header 0x37 ∷ long_header 0x38 ∷ []);
    dst = address_text (replicate 32 0x61 ++ (0x40 ∷ long_call));
  };
  link = Some (call_text long_call);
  flood = Some 255;
  route = Some (hop_array (replicate 16 (call_text long_call)));
  hops = Some (hop_array (replicate 16 (call_text long_call)));
}
