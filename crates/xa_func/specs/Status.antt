-- Status codes (XACML 3.0, core, appendix B.8).
use Rattle.std.specs.Prelude.{ℕ, List, codes}
use Rattle.xa_func.specs.declared.status.Status.{Status}
use Rattle.xa_func.specs.declared.status.Status.TheVariants.{Ok, MissingAttribute, SyntaxError, ProcessingError}

-- the URI of a status code
abbrev pub uri_of : Status → List ℕ
uri_of Ok = codes "urn:oasis:names:tc:xacml:1.0:status:ok"
uri_of MissingAttribute = codes "urn:oasis:names:tc:xacml:1.0:status:missing-attribute"
uri_of SyntaxError = codes "urn:oasis:names:tc:xacml:1.0:status:syntax-error"
uri_of ProcessingError = codes "urn:oasis:names:tc:xacml:1.0:status:processing-error"
