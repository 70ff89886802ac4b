-- From least numbers of nodes to first codes: what is known over one span, and a given row or node taken apart.
pub mod SpanCosts
pub mod Opened
