-- The accept value of a handshake (RFC 6455, section 4.2.2).
use Rattle.std.specs.Prelude.{ℕ, List, ◌++◌, codes}
use Rattle.base64.specs.Engines.{standard}
use Rattle.base64.specs.GeneralPurpose.{encode_of}
use Rattle.sha1.specs.Sha1.{sha1}

-- the text that RFC 6455 lets follow the key
abbrev pub handshake_text : List ℕ
handshake_text = codes "258EAFA5-E914-47DA-95CA-C5AB0DC85B11"

-- the accept value of a key: the base64 of the SHA-1 of the key and the text
abbrev pub accept_of : List ℕ → List ℕ
accept_of key = encode_of standard (sha1 (key ++ handshake_text))
